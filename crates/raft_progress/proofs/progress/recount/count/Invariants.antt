use Rattle.std.proofs.Common.{take}
use Rattle.raft_progress.specs.Inner.Recount.{IsGreatest}
use Rattle.raft_progress.proofs.progress.recount.count.Given as goal

-- the best so far is the greatest among the voters so far
abbrev pub invariant-loop-entry : goal.invariant-loop-entry
invariant-loop-entry g l =
    IsGreatest g.ID.PartialEq.eq g.P.Ord.cmp g.V.ProgressPart.part_of (g.QS.QuorumSet.has_quorum l.quorum_set) l.voters
    (take l.entry-index l.voters) l.fn.default_part l.best
