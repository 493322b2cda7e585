use Rattle.std.proofs.Common.{◌≡◌, ◌+◌, ◌<◌, ℕ, false, get_or}
use Rattle.raft_progress.proofs.progress.conditions.have_no_equal_neighbours.Given as goal

-- no id so far equals the one before it
abbrev pub invariant-loop-position : goal.invariant-loop-position
invariant-loop-position g l = (k : ℕ) (d : g.row.ID.Denot) → k + 1 < l.position
    → g.ID.PartialEq.eq (get_or l.ids k d) (get_or l.ids (k + 1) d) ≡ false
