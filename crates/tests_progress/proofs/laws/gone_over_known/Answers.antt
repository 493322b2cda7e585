use Rattle.std.proofs.Common.{None}
use Rattle.std.proofs.lemmas.Result.{MatchResult-weaker}
use Rattle.raft_progress.specs.tracked.Tracked.{tracked_view}
use Rattle.tests_progress.proofs.laws.gone_over_known.Goals as goal

pub returns : goal.returns
returns g c =
    let old = tracked_view c.args.cluster.now in
    let new = tracked_view c.gone_over_to.new.cluster in
    MatchResult-weaker c.gone_over_to.result (c.gone_over_to.ensures (λ v w. None))
    (λ reply step granted is config. c.change_keeps_granted.ensures c.requires.clones_have_the_part old new
    c.quorums_know_granted.ensures.ready step.ready c.args.change c.args.retain c.args.default granted (rw is at step.values) config)
    (λ e _. tt)
