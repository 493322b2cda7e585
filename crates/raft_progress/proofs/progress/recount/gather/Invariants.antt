use Rattle.std.proofs.Common.{◌≡◌, ◌≤◌, take, filter}
use Rattle.std.specs.Map.{keys_of}
use Rattle.raft_progress.specs.Inner.Recount.{at_least}
use Rattle.raft_progress.proofs.progress.recount.gather.Given as goal

-- the scratch space begins with the ids of the voters so far
abbrev pub invariant-loop-entry : goal.invariant-loop-entry
invariant-loop-entry g l = record {
  within : l.n ≤ l.entry-index;
  prefix : take l.n l.scratch ≡ keys_of (filter (at_least g.P.Ord.cmp g.V.ProgressPart.part_of l.least) (take l.entry-index l.voters));
}
