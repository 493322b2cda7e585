use Rattle.std.proofs.Common.{◌≡◌, take}
use Rattle.std.specs.List.{range_with_len}
use Rattle.std.specs.Map.{keys_of, values_of}
use Rattle.raft_progress.proofs.progress.positions.sorted_ids.Given as goal

-- the ids so far, in the order of the entries
abbrev pub invariant-loop-position : goal.invariant-loop-position
invariant-loop-position g l = record {
  ids : keys_of l.sorted.items ≡ take l.position (keys_of l.entries);
  positions : values_of l.sorted.items ≡ range_with_len 0 l.position;
}
