use Rattle.std.proofs.Common.{◌≡◌, ◌+◌, IfSome, drop}
use Rattle.std.specs.List.{prefix_len}
use Rattle.raft_base.specs.LogView.{has_id}
use Rattle.raft_state.specs.log_id_list.FullLog.{full_log}
use Rattle.raft_state.specs.Inner.LeaderRange.{HasOneLeader}
use Rattle.raft_state.specs.raft_state.VoteAndLog.{log_view_of}
use Rattle.raft_state.proofs.raft_state.RaftStateIn.first_conflicting_index.Given as goal

abbrev pub invariant-loop-place : goal.invariant-loop-place
invariant-loop-place g l = record {
  passed : prefix_len (λ e. has_id g.C.PartialEq.eq (log_view_of l.self) (g.Ent.RaftLogId.id_of e)) l.entries
      ≡ l.place + prefix_len (λ e. has_id g.C.PartialEq.eq (log_view_of l.self) (g.Ent.RaftLogId.id_of e)) (drop l.place l.entries);
  range : IfSome l.range (λ r. HasOneLeader (full_log l.self.log_ids) r.leader_id r.first r.last);
}
