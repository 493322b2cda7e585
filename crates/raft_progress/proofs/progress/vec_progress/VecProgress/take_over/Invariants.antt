use Rattle.std.proofs.Common.{take}
use Rattle.raft_progress.specs.progress.InOrder.{IsInOrder}
use Rattle.raft_progress.specs.progress.UpgradeFold.{TakesOverEach}
use Rattle.raft_progress.specs.progress.VecProgress.{view}
use Rattle.raft_progress.proofs.progress.vec_progress.VecProgress.take_over.Given as goal

-- the entries so far have been taken over
abbrev pub invariant-loop-entry : goal.invariant-loop-entry
invariant-loop-entry g l = record {
  ordered : IsInOrder g.ID.PartialEq.eq g.P.Ord.cmp g.V.ProgressPart.part_of g.QS.QuorumSet.has_quorum (view l.self);
  each : TakesOverEach g.ID.PartialEq.eq g.ID.Ord.cmp g.P.Ord.cmp g.V.ProgressPart.part_of g.V.Clone.is_clone g.QS.QuorumSet.has_quorum
      g.QS.QuorumSet.is_voter (take l.entry-index l.from.entries.items) (record (view l.fn.self) { stat = l.from.stat })
      (view l.self);
}
