use Rattle.std.proofs.Common.{◌≡◌, ◌<◌, ℕ, true, get_or}
use Rattle.std.specs.Map.{keys_of}
use Rattle.raft_progress.proofs.progress.positions.Positions.are_of.Given as goal

-- the ids so far are those that the ranks of their positions lead to
abbrev pub invariant-loop-position : goal.invariant-loop-position
invariant-loop-position g l = (p : ℕ) (d e : g.row.ID.Denot) → p < l.position
    → g.ID.PartialEq.eq (get_or (keys_of l.self.sorted.items) (get_or l.self.ranks.items p 0) d) (get_or (keys_of l.entries) p e) ≡ true
