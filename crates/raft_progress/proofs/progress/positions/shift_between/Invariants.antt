use Rattle.std.proofs.Common.{◌≡◌, ◌≤◌}
use Rattle.std.specs.Map.{keys_of, values_of}
use Rattle.raft_progress.proofs.lemmas.progress.positions.InverseLemmas.{Lifted}
use Rattle.raft_progress.proofs.progress.positions.shift_between.Given as goal

-- the entry, put at the present position, would have moved that far
abbrev pub invariant-loop-position : goal.invariant-loop-position
invariant-loop-position g l = record {
  lifted : Lifted (values_of l.fn.sorted) l.fn.ranks l.last l.risen l.position (values_of l.sorted) l.ranks;
  ids : keys_of l.sorted ≡ keys_of l.fn.sorted;
  down : l.first ≤ l.position;
  up : l.position ≤ l.last;
}

abbrev pub decreases-loop-position : goal.decreases-loop-position
decreases-loop-position g l = l.position
