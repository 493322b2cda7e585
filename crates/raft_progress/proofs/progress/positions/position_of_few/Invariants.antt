use Rattle.std.proofs.Common.{◌≡◌, drop}
use Rattle.raft_progress.specs.Inner.Positions.{position_in}
use Rattle.raft_progress.proofs.progress.positions.position_of_few.Given as goal

-- the result is the one of the entries from here on
abbrev pub invariant-loop-entry : goal.invariant-loop-entry
invariant-loop-entry g l = position_in g.ID.PartialEq.eq l.sorted l.id ≡ position_in g.ID.PartialEq.eq (drop l.entry-index l.sorted) l.id
