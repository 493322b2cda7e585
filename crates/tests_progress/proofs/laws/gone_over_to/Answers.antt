use Rattle.raft_progress.specs.tracked.Tracked.{tracked_view}
use Rattle.tests_progress.proofs.laws.gone_over_to.Goals as goal

pub returns : goal.returns
returns g c order =
    let is = c.membership.ensures in
    c.tracked_calls_are_runs.ensures.changes order (tracked_view c.args.cluster.now)
    (tracked_view c.change_to.new.self) c.args.change c.args.retain
    c.in_ok-next.next c.args.default c.change_to.result (rw is at c.in_ok-next.ensures.valid) (rw is at c.in_ok-next.ensures.changed)
    c.change_to.ensures.step c.change_to.ensures.ready
