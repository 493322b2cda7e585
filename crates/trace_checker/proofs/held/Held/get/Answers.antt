use Rattle.std.proofs.Common.{◌∙◌, arith, sym}
use Rattle.trace_checker.proofs.lemmas.IndexLemmas.{lookup_at, lookup_nowhere, position_within}
use Rattle.trace_checker.proofs.held.Held.get.Goals as goal

pub index-requires : goal.index-requires
index-requires g c =
    let at = sym (c.self.invariant c.args.content) ∙ sym c.in-Some.ensures.value in
    let within = position_within (λ m. g.D.PartialEq.eq m.0 c.args.content) 0 c.self.inside.list.items c.in-Some.place.now at in
    omega (arith, within.1)

pub returns-in-Some : goal.returns-in-Some
returns-in-Some g c =
    let at = sym (c.self.invariant c.args.content) ∙ sym c.in-Some.ensures.value in
    rw (← c.self.view_is) (sym (lookup_at (λ d. g.D.PartialEq.eq d c.args.content) 0 c.in-Some.place.now c.in-Some.place.now
    c.self.inside.list.items c.index.result.now at (omega arith) c.index.ensures))

pub returns-in-None : goal.returns-in-None
returns-in-None g c =
    let at = sym (c.self.invariant c.args.content) ∙ sym c.in-None.ensures.value in
    rw (← c.self.view_is) (sym (lookup_nowhere (λ d. g.D.PartialEq.eq d c.args.content) 0 c.self.inside.list.items at))
