-- The metadata of a snapshot.
use Rattle.std.specs.Prelude.{◌≡◌, Bool, [], None, IsTrue, string_bytes}
use Rattle.raft_members.specs.membership.Members.{same_members}
use Rattle.raft_members.specs.membership.Stored.{log_id_of, membership_of}
use Rattle.raft_state.specs.membership_state.Memberships.{IsNoMembership}
use Rattle.raft_state.specs.declared.snapshot_meta.SnapshotMetaOf.{SnapshotMetaOf}

-- there is no snapshot: no log id, no membership and an empty name
pub record IsNoSnapshot {C K N : Type 0} (meta : SnapshotMetaOf C K N) : Type 0 where
  pub last_log_id : meta.last_log_id ≡ None
  pub last_membership : IsNoMembership meta.last_membership
  pub snapshot_id : string_bytes meta.snapshot_id ≡ []

-- the same log ids and the same name, and an equal membership
pub record IsSnapshotCopy {C K N : Type 0} (eq : K → K → Bool) (same : N → N → Bool)
    (meta copy : SnapshotMetaOf C K N) : Type 0 where
  pub last_log_id : copy.last_log_id ≡ meta.last_log_id
  pub log_id : log_id_of copy.last_membership ≡ log_id_of meta.last_membership
  pub membership : IsTrue (same_members eq same
      (membership_of meta.last_membership) (membership_of copy.last_membership))
  pub snapshot_id : string_bytes copy.snapshot_id ≡ string_bytes meta.snapshot_id
