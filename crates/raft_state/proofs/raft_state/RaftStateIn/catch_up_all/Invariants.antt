use Rattle.std.proofs.Common.{◌≤◌, drop}
use Rattle.raft_progress.specs.progress.VecProgress.{view}
use Rattle.raft_state.specs.raft_state.CatchUp.{state_can_catch_up}
use Rattle.raft_state.specs.raft_state.Round.{IsInOrderByMatch}
use Rattle.raft_state.specs.raft_state.VoteAndLog.{log_view_of}
use Rattle.raft_state.proofs.lemmas.catch_up.RoundLemmas.{Along}
use Rattle.raft_state.proofs.raft_state.RaftStateIn.catch_up_all.Given as goal

abbrev pub invariant-loop-follower : goal.invariant-loop-follower
invariant-loop-follower g l = record {
  small : l.count ≤ l.follower-index;
  ordered : IsInOrderByMatch g.NID.PartialEq.eq g.C.Ord.cmp g.QS.QuorumSet.has_quorum (view l.progress);
  along : Along g.met.NID.Eq.laws g.C.Ord.cmp g.QS.QuorumSet.has_quorum (log_view_of l.self) l.max_entries
      (state_can_catch_up g.C.PartialEq.eq g.C.Ord.cmp l.self) g.C.PartialEq.eq
      (view l.fn.progress) l.followers l.count (view l.progress) (drop l.follower-index l.followers);
}
