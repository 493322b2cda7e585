-- What a leader's snapshot leaves of a server, and why it is refused.
use Rattle.std.specs.Prelude.{◌≡◌, Bool, false, not, ◌&&◌, Option, Some, None, Result, Err, IfErr, IfSome, IsTrue, if◌then◌else◌}
use Rattle.std.specs.declared.cmp.Ordering.{Ordering}
use Rattle.raft_base.specs.LogId.{id_lt}
use Rattle.steps_handlers.specs.Append.{greater_id}
use Rattle.steps_handlers.specs.Follow.{heard, is_followed}
use Rattle.steps_handlers.specs.declared.error.SnapshotError.{SnapshotError}
use Rattle.steps_handlers.specs.declared.error.SnapshotError.TheVariants.{DoesNotFit, OutOfMemory}
use Rattle.steps_handlers.specs.declared.message.Outcome.{Outcome}
use Rattle.steps_handlers.specs.declared.message.Outcome.TheVariants.{Matches, Conflict, HigherVote}
use Rattle.raft_progress.specs.progress.Comparisons.{OrdMembers}
use Rattle.raft_state.specs.log_id_list.FullLog.{full_log}
use Rattle.raft_state.specs.raft_state.Install.{log_after_install, may_install, state_after_install}
use Rattle.raft_state.specs.raft_state.VoteAndLog.{vote_of}
use Rattle.raft_state.specs.declared.raft_state.RaftStateIn.{RaftStateIn}
use Rattle.raft_state.specs.declared.snapshot_meta.SnapshotMetaOf.{SnapshotMetaOf}

-- a snapshot was installed: a copy of its metadata is the state's, and log, memberships, committed
-- log id, purge point and what is accepted are those of an install
pub record InstallsSnapshot {K N I L C : Type 0} (ord : OrdMembers C) (same_leader : L → L → Bool)
    (IsCopy : SnapshotMetaOf C K N → SnapshotMetaOf C K N → Type 0) (meta : SnapshotMetaOf C K N)
    (old new : RaftStateIn K N I L C) : Type 0 where
  pub log : IfSome meta.last_log_id
      (λ upto. full_log new.log_ids ≡ log_after_install ord.eq upto old)
  pub snapshot : IsCopy meta new.snapshot_meta
  pub rest : IfSome meta.last_log_id (λ upto. (copy : SnapshotMetaOf C K N) × IsCopy meta copy
      × (new ≡ record (state_after_install same_leader ord.cmp ord.eq upto copy.last_membership old) {
        log_ids = new.log_ids;
        snapshot_meta = new.snapshot_meta;
      }))

-- a server has all of a snapshot: it was installed if it is past what was committed, and otherwise
-- nothing changed
pub record Installs {K N I L C : Type 0} (ord : OrdMembers C) (same_leader : L → L → Bool)
    (IsCopy : SnapshotMetaOf C K N → SnapshotMetaOf C K N → Type 0) (meta : SnapshotMetaOf C K N)
    (old new : RaftStateIn K N I L C) : Type 0 where
  pub committed : new.committed ≡ greater_id ord.cmp old.committed meta.last_log_id
  pub installed : IsTrue (id_lt ord.cmp old.committed meta.last_log_id)
      → InstallsSnapshot ord same_leader IsCopy meta old new
  pub known : id_lt ord.cmp old.committed meta.last_log_id ≡ false → new ≡ old
  pub vote : new.vote ≡ old.vote

-- what a follower that has heard a leader has made of its snapshot, by the answer
abbrev pub AnswersSnapshot : {K N I L C : Type 0} → OrdMembers C → (L → L → Bool)
    → (SnapshotMetaOf C K N → SnapshotMetaOf C K N → Type 0) → SnapshotMetaOf C K N → Outcome L C
    → (old new : RaftStateIn K N I L C) → Type 0
AnswersSnapshot ord same_leader IsCopy meta (Matches upto) old new =
    (upto ≡ meta.last_log_id) × Installs ord same_leader IsCopy meta old new
AnswersSnapshot ord same_leader IsCopy meta (Conflict at last) old new = ⊥
AnswersSnapshot ord same_leader IsCopy meta (HigherVote vote) old new =
    (vote ≡ vote_of old) × (new ≡ old)

-- why a snapshot is refused for itself: it is past what is committed, and may not be installed
abbrev pub install_refusal : {K N I L C : Type 0} → (L → L → Option Ordering) → (C → C → Ordering)
    → (C → C → Bool) → SnapshotMetaOf C K N → RaftStateIn K N I L C → Option SnapshotError
install_refusal order cmp eq meta s =
    if id_lt cmp s.committed meta.last_log_id && not (may_install order cmp eq meta s)
    then Some DoesNotFit else None

-- why a leader's snapshot is refused: only a leader that is followed may have it refused
abbrev pub snapshot_refusal : {K N I L C : Type 0} → (L → L → Option Ordering)
    → (C → C → Ordering) → (C → C → Bool) → L → SnapshotMetaOf C K N → RaftStateIn K N I L C
    → Option SnapshotError
snapshot_refusal order cmp eq leader meta s =
    if is_followed order leader s then install_refusal order cmp eq meta (heard order leader s)
    else None

-- a call that has a reason to refuse is refused for it, and otherwise fails only because an
-- allocation fails
abbrev pub RefusedFor : {T : Type 0} → Option SnapshotError → Result T SnapshotError → Type 0
RefusedFor (Some reason) result = result ≡ Err reason
RefusedFor None result = IfErr result (λ e. e ≡ OutOfMemory)
