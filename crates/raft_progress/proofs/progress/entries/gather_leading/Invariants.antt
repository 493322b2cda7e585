use Rattle.std.proofs.Common.{◌≡◌, ◌≤◌, take}
use Rattle.std.specs.List.{prefix_len}
use Rattle.std.specs.Map.{keys_of}
use Rattle.raft_progress.specs.Inner.Recount.{exceeds}
use Rattle.raft_progress.proofs.progress.entries.gather_leading.Given as goal

-- all voters so far lead, and the scratch space begins with their ids
abbrev pub invariant-loop-entry : goal.invariant-loop-entry
invariant-loop-entry g l = record {
  at : l.n ≡ l.entry-index;
  gathered : take l.n l.scratch ≡ keys_of (take l.n l.voters);
  lead : l.n ≤ prefix_len (exceeds g.P.Ord.cmp g.V.ProgressPart.part_of l.least) l.voters;
}
