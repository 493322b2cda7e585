use Rattle.std.proofs.Common.{◌≡◌, length, take}
use Rattle.std.specs.Map.{keys_of}
use Rattle.raft_progress.proofs.progress.conditions.write_ids.Given as goal

-- the ids so far are written
abbrev pub invariant-loop-position : goal.invariant-loop-position
invariant-loop-position g l = record {
  written : take l.position l.scratch ≡ take l.position (keys_of l.voters);
  one_length : length l.scratch ≡ length l.voters;
}
