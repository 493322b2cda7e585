use Rattle.std.proofs.Common.{arith}
use Rattle.trace_checker.specs.Inner.Index.{place_of}
use Rattle.trace_checker.proofs.lemmas.IndexLemmas.{pushed}
use Rattle.trace_checker.proofs.held.Held.push.Goals as goal

pub invariant_of-self-2 : goal.invariant_of-self-2
invariant_of-self-2 g c =
    λ d. pushed g.D.PartialEq.eq c.args.content d c.self.inside.list.items c.reserve.new.self.items
    c.push_reserved.new.self.items c.args.configs c.len-place.result (place_of g.D.Ord.cmp c.self.inside.places.entries d)
    (place_of g.D.Ord.cmp c.note_place.new.places.entries d) (c.in_ok-note_place.ensures.places d) (c.self.invariant d)
    (omega (arith, c.len-place.ensures)) c.in_ok-reserve.ensures.items c.push_reserved.ensures.items
