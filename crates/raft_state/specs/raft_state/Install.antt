-- When a leader's snapshot may replace the log up to its last log id, and what it leaves.
use Rattle.std.specs.Prelude.{◌+◌, ◌^◌, Bool, false, not, ◌&&◌, ◌||◌, nat_lt, List, [], Option, Some, None, if◌then◌else◌}
use Rattle.std.specs.Ordering.{partial_ge}
use Rattle.std.specs.declared.cmp.Ordering.{Ordering}
use Rattle.raft_base.specs.LogId.{id_le, id_lt, index_of, same_ids}
use Rattle.raft_base.specs.LogIndex.{index_le, index_lt}
use Rattle.raft_base.specs.declared.log_id.LogIdOf.{LogIdOf}
use Rattle.raft_members.specs.membership.Stored.{log_id_of}
use Rattle.raft_members.specs.declared.membership.stored.StoredMembershipOf.{StoredMembershipOf}
use Rattle.raft_state.specs.Accepted.{accepted_upto, after_accept, leader_of}
use Rattle.raft_state.specs.log_id_list.FullLog.{full_log}
use Rattle.raft_state.specs.log_id_list.LogEdits.{log_after_purge}
use Rattle.raft_state.specs.log_id_list.LogReads.{id_at, last_id}
use Rattle.raft_state.specs.membership_state.MembershipMoves.{after_update_committed, is_covered}
use Rattle.raft_state.specs.membership_state.Memberships.{Memberships, index_at}
use Rattle.raft_state.specs.raft_state.VoteAndLog.{vote_of}
use Rattle.raft_state.specs.declared.raft_state.RaftStateIn.{RaftStateIn}
use Rattle.raft_state.specs.declared.snapshot_meta.SnapshotMetaOf.{SnapshotMetaOf}

-- the log has a log id
abbrev pub is_logged : {K N I L C : Type 0} → (C → C → Bool) → LogIdOf C → RaftStateIn K N I L C
    → Bool
is_logged eq id s = same_ids eq (id_at (full_log s.log_ids) id.index) (Some id)

-- the log that stays for a snapshot up to a log id: all of it if it has that log id, and otherwise
-- nothing
abbrev pub log_to_keep : {K N I L C : Type 0} → (C → C → Bool) → LogIdOf C → RaftStateIn K N I L C
    → List (LogIdOf C)
log_to_keep eq id s = if is_logged eq id s then full_log s.log_ids else []

-- the memberships after a snapshot with this membership is installed: if the log does not have its
-- last log id, its membership replaces both
abbrev pub memberships_after_install : {K N I L C : Type 0} → (C → C → Ordering) → (C → C → Bool)
    → LogIdOf C → StoredMembershipOf C K N → RaftStateIn K N I L C → Memberships C K N
memberships_after_install cmp eq id stored s =
    if is_logged eq id s then after_update_committed cmp stored id.index s.membership_state
    else record { committed = stored; effective = stored }

-- a log id is past what is committed, by log id and by index, and has an index after it
abbrev pub is_past_committed : {K N I L C : Type 0} → (C → C → Ordering) → LogIdOf C
    → RaftStateIn K N I L C → Bool
is_past_committed cmp id s =
    id_lt cmp s.committed (Some id) && index_lt (index_of s.committed) (Some id.index)
    && nat_lt (id.index + 1) (2 ^ 64)

-- a membership is not past a log id, by log id and by index
abbrev pub is_not_past : {C K N : Type 0} → (C → C → Ordering) → LogIdOf C
    → StoredMembershipOf C K N → Bool
is_not_past cmp id stored =
    id_le cmp (log_id_of stored) (Some id) && index_le (index_at stored) (Some id.index)

-- the vote is committed, and its leader is at least the leader of what was accepted
abbrev pub may_accept : {K N I L C : Type 0} → (L → L → Option Ordering) → RaftStateIn K N I L C
    → Bool
may_accept order s =
    (vote_of s).committed && partial_ge order (vote_of s).leader_id (leader_of s.accepted)

-- a membership is not above another one, by log id and by index
abbrev pub is_not_above : {C K N : Type 0} → (C → C → Ordering) → StoredMembershipOf C K N
    → StoredMembershipOf C K N → Bool
is_not_above cmp a b = id_le cmp (log_id_of a) (log_id_of b) && index_le (index_at a) (index_at b)

-- no committed membership is lost: it is not above the snapshot's, or the log has the snapshot's
-- last log id and continues past it with the committed membership
abbrev pub keeps_committed : {K N I L C : Type 0} → (C → C → Ordering) → (C → C → Bool) → LogIdOf C
    → StoredMembershipOf C K N → RaftStateIn K N I L C → Bool
keeps_committed cmp eq id stored s =
    is_not_above cmp s.membership_state.committed stored
    || (is_logged eq id s && index_lt (Some id.index) (index_at s.membership_state.committed))

-- an effective membership in the log past the snapshot is not below the snapshot's own
abbrev pub keeps_effective : {K N I L C : Type 0} → (C → C → Ordering) → (C → C → Bool) → LogIdOf C
    → StoredMembershipOf C K N → RaftStateIn K N I L C → Bool
keeps_effective cmp eq id stored s =
    not (is_logged eq id s) || is_covered id.index s.membership_state
    || id_le cmp (log_id_of stored) (log_id_of s.membership_state.effective)

-- a snapshot up to a log id, with this membership, may be installed
abbrev pub may_install_to : {K N I L C : Type 0} → (L → L → Option Ordering) → (C → C → Ordering)
    → (C → C → Bool) → StoredMembershipOf C K N → RaftStateIn K N I L C → Option (LogIdOf C) → Bool
may_install_to order cmp eq stored s None = false
may_install_to order cmp eq stored s (Some id) =
    is_past_committed cmp id s && is_not_past cmp id stored && may_accept order s
    && keeps_committed cmp eq id stored s && keeps_effective cmp eq id stored s

-- a snapshot may be installed
abbrev pub may_install : {K N I L C : Type 0} → (L → L → Option Ordering) → (C → C → Ordering)
    → (C → C → Bool) → SnapshotMetaOf C K N → RaftStateIn K N I L C → Bool
may_install order cmp eq meta s =
    may_install_to order cmp eq meta.last_membership s meta.last_log_id

-- the log after a snapshot up to a log id is installed
abbrev pub log_after_install : {K N I L C : Type 0} → (C → C → Bool) → LogIdOf C
    → RaftStateIn K N I L C → List (LogIdOf C)
log_after_install eq id s = log_after_purge (log_to_keep eq id s) id

-- the state then, except for its log and its snapshot: the log id is committed and the purge point,
-- everything up to its index is purged, the memberships are those after the install, and what was
-- accepted from the vote's leader is at least the log id and not past the log
abbrev pub state_after_install : {K N I L C : Type 0} → (L → L → Bool) → (C → C → Ordering)
    → (C → C → Bool) → LogIdOf C → StoredMembershipOf C K N → RaftStateIn K N I L C
    → RaftStateIn K N I L C
state_after_install same_leader cmp eq id stored s = record s {
  committed = Some id;
  purged_next = id.index + 1;
  membership_state = memberships_after_install cmp eq id stored s;
  accepted = accepted_upto cmp
      (after_accept same_leader cmp s.accepted (vote_of s).leader_id (Some id))
      (last_id (log_after_install eq id s));
  purge_upto = Some id;
}
