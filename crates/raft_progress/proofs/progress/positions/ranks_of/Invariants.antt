use Rattle.std.proofs.Common.{◌≡◌, ◌<◌, ℕ, get_or, length}
use Rattle.std.specs.Map.{values_of}
use Rattle.raft_progress.proofs.progress.positions.ranks_of.Given as goal

abbrev pub invariant-loop-rank : goal.invariant-loop-rank
invariant-loop-rank g l = length l.ranks.items ≡ l.rank

-- the positions of the entries so far lead back to them
abbrev pub invariant-loop-rank-2 : goal.invariant-loop-rank-2
invariant-loop-rank-2 g l = record {
  one_length : length l.ranks.items ≡ length l.sorted;
  written : (r : ℕ) → r < l.rank → get_or l.ranks.items (get_or (values_of l.sorted) r 0) 0 ≡ r;
}
