use Rattle.std.proofs.Common.{◌≡◌, ◌<◌, ◌&&◌, ℕ, true, false, get_or, length}
use Rattle.trace_checker.specs.Inner.Places.{ArePlaced}
use Rattle.trace_checker.specs.declared.checker.leader.Leader.{Leader}
use Rattle.trace_checker.proofs.checker.places.leader_at.Given as goal

-- the leader is not among those before
abbrev pub invariant-loop-j : goal.invariant-loop-j
invariant-loop-j g l =
    ((x y : g.row.T.Denot) → g.T.PartialEq.eq x y ≡ true → x ≡ y)
    → ArePlaced g.T.Term.rank l.places.entries l.leaders.items
    → (k : ℕ) (d : Leader g.row.T.Denot g.row.N.Denot) → k < l.j → k < length l.leaders.items
    → (g.T.PartialEq.eq (get_or l.leaders.items k d).term l.term && g.N.PartialEq.eq (get_or l.leaders.items k d).id l.id)
    ≡ false
