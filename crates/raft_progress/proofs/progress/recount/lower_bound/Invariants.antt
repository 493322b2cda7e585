use Rattle.std.proofs.Common.{◌≤◌, length}
use Rattle.raft_progress.proofs.progress.recount.lower_bound.Given as goal

-- the ids of all voters fit the scratch space
abbrev pub invariant-loop-entry : goal.invariant-loop-entry
invariant-loop-entry g l = length l.voters ≤ length l.scratch
