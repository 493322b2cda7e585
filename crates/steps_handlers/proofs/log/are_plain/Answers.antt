use Rattle.std.proofs.Common.{◌≡◌, Some, false, refl, sym, ◌∙◌}
use Rattle.std.specs.Prelude.{slice_get}
use Rattle.steps_handlers.proofs.lemmas.EntryLemmas.{no_first, slice_rest}
use Rattle.steps_handlers.proofs.lemmas.RunLemmas.{none_shown, plain_from}
use Rattle.steps_handlers.specs.Inner.Log.{stores_membership}
use Rattle.steps_handlers.proofs.log.are_plain.Goals as goal

pub returns-in_default : goal.returns-in_default
returns-in_default g c = λ _. let none = no_first c.args.entries.now (rw c.in_default.is at c.first.ensures.value) in rw none refl

pub returns : goal.returns
returns g c = λ continues.
    let first = c.in-Some.first.now in
    let begins : slice_get c.args.entries.now 0 ≡ Some first = sym (rw c.in-Some.is at c.first.ensures.value) in
    let none : stores_membership first ≡ false =
    none_shown _ c.get_membership.result _ c.get_membership.ensures (sym c.is_some.ensures ∙ c.if-is_some.false) in
    plain_from g.C.PartialEq.eq g.met.C.Eq.laws first c.args.entries.now begins none
    (rw (slice_rest 1 c.args.entries.now) at (c.continue_log.ensures continues))
