use Rattle.std.specs.Vec.{vec_len}
use Rattle.std.proofs.Common.{ap, arith}
use Rattle.trace_checker.specs.Inner.Index.{place_of}
use Rattle.trace_checker.proofs.lemmas.IndexLemmas.{popped}
use Rattle.trace_checker.proofs.held.Held.pop.Goals as goal

pub invariant_of-self : goal.invariant_of-self
invariant_of-self g c =
    let last = c.in-Some.ensures in
    λ d. popped g.D.PartialEq.eq c.in-Some.content d c.self.inside.list.items c.args.self.now.items last.0
    c.pop.new.self.items last.1.0 (vec_len c.self.inside.list) c.len-place.result (place_of g.D.Ord.cmp c.self.inside.places.entries d)
    (place_of g.D.Ord.cmp c.forget_place.new.places.entries d) (c.forget_place.ensures d) (c.self.invariant d)
    (ap (λ h. h.items) c.self.view_is) last.1.1 (omega arith) c.pop.ensures.rest
    (omega (arith, c.len-place.ensures))
