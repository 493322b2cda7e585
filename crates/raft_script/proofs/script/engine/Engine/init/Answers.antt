use Rattle.raft_script.proofs.lemmas.NewTrackedLemmas.{is_new}
use Rattle.raft_script.proofs.script.engine.Engine.init.Goals as goal

pub returns-clause-ok : goal.returns-clause-ok
returns-clause-ok c =
    let nodes = c.in_ok-membership.ensures.nodes in
    let progress = c.in_ok-tracked.ensures.progress in
    is_new _ c.args.learners.keys c.args.default _ _ c.in_ok-tracked.ensures.membership c.in_ok-membership.ensures.configs _ nodes.0 nodes.1
    nodes.2 progress.configs _ progress.begins.values c.in_ok-tracked.ensures.ready
