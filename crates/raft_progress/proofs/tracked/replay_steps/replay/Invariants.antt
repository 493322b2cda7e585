use Rattle.std.proofs.Common.{◌≡◌, ◌≤◌, ◌+◌, ◌++◌, length, vec_len}
use Rattle.std.specs.Vec.{vec_capacity}
use Rattle.std.specs.Vec.Iter.{into_iter_items}
use Rattle.raft_progress.specs.tracked.Tracked.{tracked_view}
use Rattle.raft_progress.specs.tracked.TrackedViewSteps.{IsTrackedViewRun}
use Rattle.raft_progress.proofs.lemmas.progress.Traits.{compared}
use Rattle.raft_progress.proofs.tracked.replay_steps.replay.Given as goal

-- the steps so far have been made, and there is capacity for the replies to the others
abbrev pub invariant-loop-step : goal.invariant-loop-step
invariant-loop-step g l =
    let by = compared g.NID.PartialEq.eq g.NID.Ord.cmp g.P.Ord.cmp g.V.PartialOrd.partial_cmp g.V.ProgressPart.part_of g.V.Clone.is_clone in
    record {
      left : l.yielded ++ into_iter_items l.step-iterator ≡ l.fn.steps.items;
      scratch : vec_len l.replies + length (into_iter_items l.step-iterator) ≤ vec_capacity l.replies;
      run : IsTrackedViewRun by g.N.PartialEq.eq (tracked_view l.fn.cluster) l.yielded l.replies.items (tracked_view l.cluster);
    }
