-- What a restart makes of the disk: the snapshot, and the entries past it.
use Rattle.std.specs.Prelude.{◌≡◌, Bool, false, not, ◌&&◌, nat_eq, List, [], ◌∷◌, Option, Some, None, IsTrue}
use Rattle.std.specs.Prelude.{◌+◌, ◌++◌, ◌^◌, nat_lt, true, if◌then◌else◌}
use Rattle.std.specs.declared.cmp.Ordering.{Ordering}
use Rattle.raft_base.specs.LogId.{id_lt, next_index}
use Rattle.raft_base.specs.UTime.{moment_of}
use Rattle.raft_base.specs.declared.log_id.LogIdOf.{LogIdOf}
use Rattle.raft_base.specs.declared.server_state.ServerState.TheVariants.{Learner}
use Rattle.steps_handlers.specs.Append.{greater_id}
use Rattle.steps_handlers.specs.Entries.{allows_commit_past, are_in_order, effective_with, entry_ids, has_committed_with, has_id, has_memberships_in_order}
use Rattle.steps_handlers.specs.declared.error.AppendError.{AppendError}
use Rattle.steps_handlers.specs.declared.error.AppendError.TheVariants as append
use Rattle.steps_handlers.specs.declared.error.RestartError.{RestartError}
use Rattle.steps_handlers.specs.declared.error.RestartError.TheVariants.{CommittedNotLogged, MembershipNotInOrder, NotInOrder, OutOfMemory, SnapshotDoesNotFit}
use Rattle.steps_handlers.specs.declared.error.SnapshotError.{SnapshotError}
use Rattle.steps_handlers.specs.declared.error.SnapshotError.TheVariants as install
use Rattle.steps_handlers.specs.declared.restart.Stored.{Stored}
use Rattle.raft_members.specs.membership.Members.{same_members}
use Rattle.raft_members.specs.membership.Stored.{log_id_of, membership_of}
use Rattle.raft_members.specs.declared.membership.stored.StoredMembershipOf.{StoredMembershipOf}
use Rattle.raft_progress.specs.progress.Comparisons.{OrdMembers}
use Rattle.raft_state.specs.IOState.{io_state}
use Rattle.raft_state.specs.SnapshotMeta.{IsNoSnapshot, IsSnapshotCopy}
use Rattle.raft_state.specs.entry.Entry.{payload_membership}
use Rattle.raft_state.specs.log_id_list.FullLog.{full_log, same_log}
use Rattle.raft_state.specs.membership_state.MembershipMoves.{after_commit, may_commit}
use Rattle.raft_state.specs.membership_state.Memberships.{IsNoMembership, Memberships}
use Rattle.raft_state.specs.raft_state.Appended.{AppendsMemberships}
use Rattle.raft_state.specs.raft_state.Install.{is_not_past}
use Rattle.raft_state.specs.declared.entry.EntryOf.{EntryOf}
use Rattle.raft_state.specs.declared.raft_state.RaftStateIn.{RaftStateIn}
use Rattle.raft_state.specs.declared.snapshot_meta.SnapshotMetaOf.{SnapshotMetaOf}

-- the disk of a server that has never run: a default vote, no snapshot, no entry, nothing committed
pub record IsEmptyDisk {L C K N D : Type 0} (IsDefaultLeader : L → Type 0) (disk : Stored L C K N D)
    : Type 0 where
  pub vote : (leader : L) × IsDefaultLeader leader
      × (disk.vote ≡ record { leader_id = leader; committed = false })
  pub snapshot : IsNoSnapshot disk.snapshot
  pub entries : disk.entries.items ≡ []
  pub committed : disk.committed ≡ None

-- the log ids of a log that begins with a snapshot: the snapshot's last one, if there is a snapshot
abbrev pub snapshot_ids : {C : Type 0} → Option (LogIdOf C) → List (LogIdOf C)
snapshot_ids None = []
snapshot_ids (Some last) = last ∷ []

-- the entries past the last log id of a snapshot, in the order of the disk. If the disk has another
-- leader's entry at that index, the install of the snapshot was interrupted, and none is taken
abbrev pub entries_past : {C K N D : Type 0} → (C → C → Bool) → Option (LogIdOf C)
    → List (EntryOf C K N D) → List (EntryOf C K N D)
entries_past eq None es = es
entries_past eq (Some last) [] = []
entries_past eq (Some last) (e ∷ es) =
    if nat_lt last.index e.log_id.index then e ∷ es
    else (if nat_eq e.log_id.index last.index && not (eq e.log_id.leader_id last.leader_id) then []
    else entries_past eq (Some last) es)

-- a membership of a server that has a snapshot alone: a copy of the snapshot's, or none without one
abbrev pub IsMembershipAt : {C K N : Type 0} → (K → K → Bool) → (N → N → Bool) → Option (LogIdOf C)
    → StoredMembershipOf C K N → StoredMembershipOf C K N → Type 0
IsMembershipAt eq same None stored m = IsNoMembership m
IsMembershipAt eq same (Some last) stored m = (log_id_of m ≡ log_id_of stored)
    × IsTrue (same_members eq same (membership_of stored) (membership_of m))

-- the metadata of a server's snapshot: a copy of the stored one, or that of no snapshot
abbrev pub IsSnapshotAt : {C K N : Type 0} → (K → K → Bool) → (N → N → Bool) → Option (LogIdOf C)
    → SnapshotMetaOf C K N → SnapshotMetaOf C K N → Type 0
IsSnapshotAt eq same None stored meta = IsNoSnapshot meta
IsSnapshotAt eq same (Some last) stored meta = IsSnapshotCopy eq same stored meta

-- a snapshot fits a server without log: an index is after it, and its membership is not past it
abbrev pub snapshot_fits : {C K N : Type 0} → (C → C → Ordering) → Option (LogIdOf C)
    → StoredMembershipOf C K N → Bool
snapshot_fits cmp None stored = true
snapshot_fits cmp (Some last) stored = nat_lt (last.index + 1) (2 ^ 64) && is_not_past cmp last stored

-- both memberships of a server that has a snapshot alone are the snapshot's
abbrev pub AreSnapshotMemberships : {C K N : Type 0} → (K → K → Bool) → (N → N → Bool)
    → SnapshotMetaOf C K N → Memberships C K N → Type 0
AreSnapshotMemberships eq same meta m =
    IsMembershipAt eq same meta.last_log_id meta.last_membership m.committed
    × IsMembershipAt eq same meta.last_log_id meta.last_membership m.effective

-- the log id of the membership of a snapshot, if there is a snapshot
abbrev pub snapshot_membership : {C K N : Type 0} → Option (LogIdOf C) → StoredMembershipOf C K N
    → Option (LogIdOf C)
snapshot_membership None stored = None
snapshot_membership (Some last) stored = log_id_of stored

-- a server has not run: it is a learner, its vote has no moment, and its storage has done nothing
pub record HasNotRun {K N I L C : Type 0} (IsDefaultLeader : L → Type 0)
    (IsDefaultElected : C → Type 0) (s : RaftStateIn K N I L C) : Type 0 where
  pub role : s.server_state ≡ Learner
  pub moment : moment_of s.vote ≡ None
  pub storage : (leader : L) × (elected : C) × IsDefaultLeader leader × IsDefaultElected elected
      × (s.io_state ≡ io_state false (record { leader_id = leader; committed = false })
      (record { committed_leader_id = elected; log_id = None }) None None None)

-- the memberships of the snapshot and then of each entry past it were made effective, one after the
-- other, and then what is stored as committed was committed
abbrev pub AppendsStored : {C K N D : Type 0} → (C → C → Ordering) → (K → K → Bool) → (N → N → Bool)
    → SnapshotMetaOf C K N → List (EntryOf C K N D) → Option (LogIdOf C) → Memberships C K N → Type 0
AppendsStored {C} {K} {N} cmp eq same meta es committed m =
    (first appended : Memberships C K N) × AreSnapshotMemberships eq same meta first
    × AppendsMemberships eq same (λ e. e.log_id) (λ e. payload_membership e.payload) es first appended
    × (m ≡ (if id_lt cmp meta.last_log_id committed then after_commit cmp committed appended
    else appended))

-- what is known to be committed, besides a log id: the log id of the committed membership, if the log
-- has it, because a membership is proposed once the one before it is committed
abbrev pub known_committed : {K N C : Type 0} → (C → C → Bool) → (C → C → Ordering)
    → List (LogIdOf C) → Option (LogIdOf C) → Memberships C K N → Option (LogIdOf C)
known_committed eq cmp log before m =
    if has_id eq log (log_id_of m.committed) && may_commit cmp (log_id_of m.committed) m
    then greater_id cmp before (log_id_of m.committed) else before

-- what is known to be committed is committed, and with it the effective membership if it is not past
-- that
pub record CommitsKnown {K N I L C : Type 0} (eq : C → C → Bool) (cmp : C → C → Ordering)
    (before : Option (LogIdOf C)) (m : Memberships C K N) (s : RaftStateIn K N I L C) : Type 0 where
  pub known : s.committed ≡ known_committed eq cmp (full_log s.log_ids) before m
  pub memberships : s.membership_state
      ≡ (if id_lt cmp before s.committed then after_commit cmp s.committed m else m)

-- a server has what its disk has: the log is the last log id of the snapshot and then the log ids of
-- the entries past it; all up to the snapshot is purged; what is known to be committed is committed,
-- which the last membership allows
pub record Restores {K N I L C D : Type 0} (ord : OrdMembers C) (id_eq : K → K → Bool)
    (same : N → N → Bool) (meta : SnapshotMetaOf C K N) (stored : List (EntryOf C K N D))
    (known : Option (LogIdOf C)) (s : RaftStateIn K N I L C) : Type 0 where
  pub log : IsTrue (same_log ord.eq (full_log s.log_ids) (snapshot_ids meta.last_log_id
      ++ entry_ids (entries_past ord.eq meta.last_log_id stored)))
  pub purge_point : s.purge_upto ≡ meta.last_log_id
  pub purged : s.purged_next ≡ next_index meta.last_log_id
  pub snapshot : IsSnapshotAt id_eq same meta.last_log_id meta s.snapshot_meta
  pub allowed : IsTrue (allows_commit_past ord.cmp
      (effective_with (snapshot_membership meta.last_log_id meta.last_membership)
      (entries_past ord.eq meta.last_log_id stored)) meta.last_log_id known)
  pub committed : (m : Memberships C K N) × AppendsStored ord.cmp id_eq same meta
      (entries_past ord.eq meta.last_log_id stored) known m
      × CommitsKnown ord.eq ord.cmp (greater_id ord.cmp meta.last_log_id known) m s

-- why a restart is refused: the snapshot does not fit; the entries past it are not in order, or their
-- memberships are not; the log does not have what is stored as committed; or an allocation failed
abbrev pub IsRefusedWith : {C K N D : Type 0} → (C → C → Bool) → (C → C → Ordering)
    → SnapshotMetaOf C K N → (past : List (EntryOf C K N D)) → Option (LogIdOf C) → RestartError
    → Type 0
IsRefusedWith eq cmp meta past committed SnapshotDoesNotFit =
    snapshot_fits cmp meta.last_log_id meta.last_membership ≡ false
IsRefusedWith eq cmp meta past committed NotInOrder = are_in_order cmp meta.last_log_id past ≡ false
IsRefusedWith eq cmp meta past committed MembershipNotInOrder =
    let effective = snapshot_membership meta.last_log_id meta.last_membership in
    (has_memberships_in_order cmp effective past
    && allows_commit_past cmp (effective_with effective past) meta.last_log_id committed) ≡ false
IsRefusedWith eq cmp meta past committed CommittedNotLogged =
    has_committed_with eq cmp (snapshot_ids meta.last_log_id) meta.last_log_id past committed ≡ false
IsRefusedWith eq cmp meta past committed OutOfMemory = Unit {0}

-- of the stored entries those past the snapshot are taken
abbrev pub IsRestartRefusal : {C K N D : Type 0} → (C → C → Bool) → (C → C → Ordering)
    → SnapshotMetaOf C K N → List (EntryOf C K N D) → Option (LogIdOf C) → RestartError → Type 0
IsRestartRefusal eq cmp meta es committed refusal =
    IsRefusedWith eq cmp meta (entries_past eq meta.last_log_id es) committed refusal

-- the refusal of a snapshot as one of a restart
abbrev pub refused_snapshot : SnapshotError → RestartError
refused_snapshot install.DoesNotFit = SnapshotDoesNotFit
refused_snapshot install.OutOfMemory = OutOfMemory

-- the refusal of entries as one of a restart: entries past the snapshot truncate nothing
abbrev pub refused_entries : AppendError → RestartError
refused_entries append.NotInOrder = NotInOrder
refused_entries append.TruncatesCommitted = NotInOrder
refused_entries append.MembershipNotInOrder = MembershipNotInOrder
refused_entries append.CommittedNotLogged = CommittedNotLogged
refused_entries append.OutOfMemory = OutOfMemory
