use Rattle.std.proofs.lemmas.Result.{MatchResult-weaker}
use Rattle.raft_progress.specs.progress.VecProgress.{view}
use Rattle.tests_progress.proofs.laws.copy_of.Goals as goal

pub returns : goal.returns
returns g c =
    MatchResult-weaker c.clone.result c.clone.ensures.cases
    (λ copy cloned. c.clones_keep_order.ensures c.requires.clones_have_the_part c.requires.quorum_sets
    (view c.args.progress.now) (view copy) cloned c.requires.ordered)
    (λ e _. tt)
