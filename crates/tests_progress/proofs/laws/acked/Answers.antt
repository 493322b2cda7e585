use Rattle.std.proofs.Common.{◌≡◌, Option, Some, None, refl}
use Rattle.raft_progress.specs.progress.ProgressView.{state}
use Rattle.raft_progress.specs.progress.VecProgress.{view}
use Rattle.raft_progress.specs.declared.progress.steps.Reply.TheVariants.{Granted, Unknown}
use Rattle.tests_progress.proofs.laws.acked.Goals as goal

known_or_not : {V R : Type 0} (value o : Option V) → value ≡ o → ((v : V) → value ≡ Some v → R) → (value ≡ None → R) → R
known_or_not value None e known unknown = unknown e
known_or_not value (Some v) e known unknown = known v e

pub returns : goal.returns
returns g c order =
    let old = view c.args.progress.now in
    let new = view c.update.follows.lender-at-none in
    let h = c.update.follows.holds-at-none in
    let value = (state g.ID.PartialEq.eq old).value c.args.id.now in
    let made = c.calls_are_runs.ensures.updates order old new c.args.id.now c.args.value c.requires.ordered c.requires.monotone h.updated
    h.ordered in
    known_or_not value value refl (λ v e. (Granted new.granted, made.known v e)) (λ e. (Unknown new.granted, made.unknown e))
