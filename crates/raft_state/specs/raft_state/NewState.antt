-- The state of a new node.
use Rattle.std.specs.Prelude.{◌≡◌, false, [], None}
use Rattle.raft_base.specs.UTime.{moment_of}
use Rattle.raft_base.specs.declared.server_state.ServerState.TheVariants.{Learner}
use Rattle.raft_state.specs.Accepted.{accepted_from}
use Rattle.raft_state.specs.log_id_list.FullLog.{full_log}
use Rattle.raft_state.specs.IOState.{io_state}
use Rattle.raft_state.specs.membership_state.Memberships.{IsNoMembership}
use Rattle.raft_state.specs.SnapshotMeta.{IsNoSnapshot}
use Rattle.raft_state.specs.raft_state.VoteAndLog.{vote_of}
use Rattle.raft_state.specs.declared.raft_state.RaftStateIn.{RaftStateIn}

-- a learner without log, membership and snapshot, whose vote was never updated
pub record IsNewState {K N I L C : Type 0} (s : RaftStateIn K N I L C) : Type 0 where
  pub log : full_log s.log_ids ≡ []
  pub committed : s.committed ≡ None
  pub purged_next : s.purged_next ≡ 0
  pub purge_upto : s.purge_upto ≡ None
  pub committed_membership : IsNoMembership s.membership_state.committed
  pub effective_membership : IsNoMembership s.membership_state.effective
  pub snapshot_meta : IsNoSnapshot s.snapshot_meta
  pub server_state : s.server_state ≡ Learner
  pub moment : moment_of s.vote ≡ None

-- its votes are uncommitted and for the default leader; nothing is accepted from that leader, and
-- storage has done nothing
pub record HasNewVote {K N I L C : Type 0} (leader : L) (elected : C) (s : RaftStateIn K N I L C)
    : Type 0 where
  pub vote : vote_of s ≡ record { leader_id = leader; committed = false }
  pub accepted : s.accepted ≡ accepted_from leader None
  pub io_state : s.io_state
      ≡ io_state false (record { leader_id = leader; committed = false })
      (record { committed_leader_id = elected; log_id = None }) None None None
