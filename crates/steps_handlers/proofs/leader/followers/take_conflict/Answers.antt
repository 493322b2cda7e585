use Rattle.std.proofs.Common.{◌≡◌, ◌∙◌, Some, Ok, ap}
use Rattle.raft_progress.specs.tracked.Tracked.{tracked_view}
use Rattle.steps_handlers.proofs.lemmas.SendLemmas.{conflict_hinted}
use Rattle.steps_handlers.proofs.leader.followers.take_conflict.Goals as goal

pub returns-in-Some-Ok-clause-step : goal.returns-in-Some-Ok-clause-step
returns-in-Some-Ok-clause-step g c =
    let inner : c.in-Some-Ok.field-0 ≡ Ok tt = rw c.in-Some-Ok.is at c.in-Some-Ok.field-0-is in
    let taken : c.conflict-taken.result ≡ Some (Ok tt) = c.in-Some-Ok.is ∙ ap Some inner in
    let hint = rw c.end_after.ensures at c.conflict-hint.ensures in
    rw taken (conflict_hinted g.met.NID.Eq.laws g.C.Ord.cmp (tracked_view c.args.followers.now) (tracked_view c.conflict-taken.new.self)
    (tracked_view c.conflict-hint.new.self) c.args.from.now c.args.request c.args.index c.args.last
    (rw taken at c.conflict-taken.ensures) c.conflict-hint.result hint)
