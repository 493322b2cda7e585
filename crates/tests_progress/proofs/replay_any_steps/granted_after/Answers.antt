use Rattle.std.proofs.Common.{subst, sym}
use Rattle.raft_progress.specs.progress.CountedValue.{IsCounted}
use Rattle.raft_progress.specs.progress.ProgressView.{state}
use Rattle.raft_progress.specs.progress.VecProgress.{view}
use Rattle.tests_progress.proofs.replay_any_steps.granted_after.Goals as goal

pub returns : goal.returns
returns g c = (
  state g.ID.PartialEq.eq (view c.in_ok-progress.progress),
  state g.ID.PartialEq.eq (view c.replay_any.new.progress),
  c.in_ok-_replies._replies.items,
  c.in_ok-progress.ensures.made,
  c.in_ok-_replies.ensures.run,
  subst (IsCounted g.P.Ord.cmp g.V.ProgressPart.part_of g.QS.QuorumSet.has_quorum
      (state g.ID.PartialEq.eq (view c.replay_any.new.progress))) (sym c.granted.ensures) c.replay_any.ensures.granted,
)
