use Rattle.std.proofs.Common.{◌≡◌, Some, refl, sym, ◌∙◌}
use Rattle.std.specs.Prelude.{slice_get}
use Rattle.steps_handlers.proofs.lemmas.EntryLemmas.{no_first}
use Rattle.steps_handlers.proofs.lemmas.RunLemmas.{plain_in_order}
use Rattle.steps_handlers.proofs.log.are_in_order.Goals as goal

pub returns-in-Some : goal.returns-in-Some
returns-in-Some g c =
    let first = c.in-Some.first.now in
    let begins : slice_get c.args.entries.now 0 ≡ Some first = sym (rw c.in-Some.is at c.first.ensures.value) in
    c.is_successor.ensures ∙ plain_in_order g.C.PartialEq.eq g.met.C.Eq.laws g.C.Ord.cmp g.met.C.Ord.matches_eq c.args.last first
    c.args.entries.now begins (c.requires c.if-plain.true)

pub returns-in-None : goal.returns-in-None
returns-in-None g c = let none = no_first c.args.entries.now (rw c.in-None.is at c.first.ensures.value) in rw none refl
