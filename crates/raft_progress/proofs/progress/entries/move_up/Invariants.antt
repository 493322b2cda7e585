use Rattle.std.proofs.Common.{◌≡◌, get_or}
use Rattle.raft_progress.specs.Inner.Rises.{Passed}
use Rattle.raft_progress.proofs.progress.entries.move_up.Given as goal

-- the entry has passed those down to its position, and the part is still its part
abbrev pub invariant-loop-at : goal.invariant-loop-at
invariant-loop-at g l = record {
  passes : Passed g.P.Ord.cmp g.V.ProgressPart.part_of l.fn.entries.items l.position l.entries.items l.at;
  carries : (d : g.row.ID.Denot × g.row.V.Denot) → g.V.ProgressPart.part_of (get_or l.entries.items l.at d).1 ≡ l.part;
}

abbrev pub decreases-loop-at : goal.decreases-loop-at
decreases-loop-at g l = l.at
