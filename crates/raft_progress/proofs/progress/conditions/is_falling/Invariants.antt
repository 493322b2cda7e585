use Rattle.std.proofs.Common.{◌≡◌, ◌-◌, drop}
use Rattle.raft_progress.specs.Inner.Conditions.{never_rises}
use Rattle.raft_progress.proofs.progress.conditions.is_falling.Given as goal

-- the result is the one of the voters from the one before on
abbrev pub invariant-loop-position : goal.invariant-loop-position
invariant-loop-position g l =
    never_rises g.P.Ord.cmp g.V.ProgressPart.part_of l.granted l.voters
    ≡ never_rises g.P.Ord.cmp g.V.ProgressPart.part_of l.granted (drop (l.position - 1) l.voters)
