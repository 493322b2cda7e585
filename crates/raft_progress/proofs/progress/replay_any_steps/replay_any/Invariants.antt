use Rattle.std.proofs.Common.{◌≡◌, ◌≤◌, ◌+◌, ◌++◌, length, vec_len}
use Rattle.std.specs.Vec.{vec_capacity}
use Rattle.std.specs.Vec.Iter.{into_iter_items}
use Rattle.raft_progress.specs.progress.InOrder.{IsInOrder}
use Rattle.raft_progress.specs.progress.ViewSteps.{IsViewRun}
use Rattle.raft_progress.specs.progress.VecProgress.{view}
use Rattle.raft_progress.proofs.lemmas.progress.Traits.{compared}
use Rattle.raft_progress.proofs.progress.replay_any_steps.replay_any.Given as goal

-- the steps so far have been made, and there is capacity for the replies to the others
abbrev pub invariant-loop-step : goal.invariant-loop-step
invariant-loop-step g l =
    let by = compared g.ID.PartialEq.eq g.ID.Ord.cmp g.P.Ord.cmp g.V.PartialOrd.partial_cmp g.V.ProgressPart.part_of g.V.Clone.is_clone in
    record {
      ordered : IsInOrder by.eq by.cmp by.part g.QS.QuorumSet.has_quorum (view l.progress);
      left : l.yielded ++ into_iter_items l.step-iterator ≡ l.fn.steps.items;
      scratch : vec_len l.replies + length (into_iter_items l.step-iterator) ≤ vec_capacity l.replies;
      run : IsViewRun by g.QS.QuorumSet.has_quorum g.QS.QuorumSet.is_voter (view l.fn.progress) l.yielded l.replies.items
          (view l.progress);
    }
