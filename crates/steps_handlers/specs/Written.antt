-- What a disk has to write, so that it has the vote and the log of the state.
use Rattle.std.specs.Prelude.{◌≡◌, ℕ, Bool, true, false, not, ◌&&◌, ◌||◌, min, nat_le, List, [], ◌∷◌, Option, Some, None, IfSome, IsTrue, if◌then◌else◌}
use Rattle.std.specs.Option.{option_or}
use Rattle.std.specs.declared.cmp.Ordering.{Ordering}
use Rattle.raft_base.specs.LogId.{id_lt, same_ids}
use Rattle.raft_base.specs.declared.log_id.LogIdOf.{LogIdOf}
use Rattle.raft_base.specs.declared.vote.VoteIn.{VoteIn}
use Rattle.steps_handlers.specs.Append.{entries_to_append}
use Rattle.steps_handlers.specs.Campaign.{same_vote}
use Rattle.steps_handlers.specs.Entries.{ends_before, has_id}
use Rattle.steps_handlers.specs.Compared.{Compared}
use Rattle.steps_handlers.specs.Leadership.{Leadership}
use Rattle.steps_handlers.specs.Proposals.{AppendsOwn}
use Rattle.steps_handlers.specs.declared.changes.Changes.{Changes}
use Rattle.steps_handlers.specs.declared.changes.SnapshotChanges.{SnapshotChanges}
use Rattle.steps_handlers.specs.declared.message.Outcome.{Outcome}
use Rattle.steps_handlers.specs.declared.message.Outcome.TheVariants.{Matches, Conflict, HigherVote}
use Rattle.raft_progress.specs.progress.Comparisons.{OrdMembers}
use Rattle.raft_state.specs.log_id_list.FullLog.{full_log}
use Rattle.raft_state.specs.log_id_list.LogEdits.{log_after_purge}
use Rattle.raft_state.specs.log_id_list.LogReads.{id_at}
use Rattle.raft_state.specs.raft_state.VoteAndLog.{vote_of}
use Rattle.raft_state.specs.declared.entry.EntryOf.{EntryOf}
use Rattle.raft_state.specs.declared.entry.payload.EntryPayload.{EntryPayload}
use Rattle.raft_state.specs.declared.raft_state.RaftStateIn.{RaftStateIn}
use Rattle.raft_state.specs.declared.snapshot_meta.SnapshotMetaOf.{SnapshotMetaOf}

-- the changes of a step that has changed nothing
abbrev pub no_changes : {C : Type 0} → Changes C
no_changes = record { vote = false; log_from = None; committed = None }

-- the lesser one of two indexes that may be absent
abbrev pub lesser_index : Option ℕ → Option ℕ → Option ℕ
lesser_index None b = b
lesser_index (Some a) None = Some a
lesser_index (Some a) (Some b) = Some (min a b)

-- what two steps have changed, one after the other: the vote, if one of them has; the log from the
-- lesser one of their indexes on; and what is committed at last
abbrev pub joined : {C : Type 0} → Changes C → (later : Changes C) → Changes C
joined changes later = record {
  vote = changes.vote || later.vote;
  log_from = lesser_index changes.log_from later.log_from;
  committed = option_or later.committed changes.committed;
}

-- the vote on a disk that follows changes: the vote of the server is written if it is new
abbrev pub vote_written : {L : Type 0} → (is_new : Bool) → (disk vote : VoteIn L) → VoteIn L
vote_written is_new disk vote = if is_new then vote else disk

-- the log id at an index on a disk that follows changes: from the index on from which the log has
-- changed, the log ids of the server's log take the place of those on the disk
abbrev pub id_written : {C : Type 0} → (log_from : Option ℕ) → (disk log : List (LogIdOf C)) → ℕ
    → Option (LogIdOf C)
id_written None disk log i = id_at disk i
id_written (Some from) disk log i = if nat_le from i then id_at log i else id_at disk i

-- a disk that has a log and follows changes has the log of the server
abbrev pub HasLogWritten : {C : Type 0} → (C → C → Bool) → (log_from : Option ℕ)
    → (disk log : List (LogIdOf C)) → Type 0
HasLogWritten eq log_from disk log =
    (i : ℕ) → IsTrue (same_ids eq (id_at log i) (id_written log_from disk log i))

-- a disk that has the vote and the log of a state, and follows changes, has those of another state
pub record IsWrittenBy {K N I L C : Type 0} (same_leader : L → L → Bool) (eq : C → C → Bool)
    (changes : Changes C) (old new : RaftStateIn K N I L C) : Type 0 where
  pub vote : IsTrue (same_vote same_leader (vote_of new)
      (vote_written changes.vote (vote_of old) (vote_of new)))
  pub log : HasLogWritten eq changes.log_from (full_log old.log_ids) (full_log new.log_ids)

-- a disk that follows the joined changes of two steps, and is written once, has the vote and the log
-- that the server has after both
abbrev pub JoinedAreWritten : (K N I L C : Type 0) → (L → L → Bool) → (C → C → Bool) → Type 0
JoinedAreWritten K N I L C same_leader eq =
    (changes later : Changes C) (old mid new : RaftStateIn K N I L C)
    → IsWrittenBy same_leader eq changes old mid → IsWrittenBy same_leader eq later mid new
    → IsWrittenBy same_leader eq (joined changes later) old new

-- what a step has changed that changes the vote alone: a vote that is promised or granted, a campaign,
-- and the begin of a leadership
abbrev pub VoteIsWritten : (K N I L C : Type 0) → (L → L → Bool) → (C → C → Bool) → Type 0
VoteIsWritten K N I L C same_leader eq =
    (old new : RaftStateIn K N I L C) → new ≡ record old { vote = new.vote }
    → IsWrittenBy same_leader eq (record no_changes { vote = true }) old new

-- what a leader has changed that has appended an entry of its own
abbrev pub EntryIsWritten : (I D : Type 0) → {K N L C : Type 0} → Compared K N L C → Type 0
EntryIsWritten I D {K} {N} {L} {C} by =
    (leader : Leadership K N C) (payload : EntryPayload K N D) (old new : RaftStateIn K N I L C)
    (entry : EntryOf C K N D) → AppendsOwn by leader payload old new entry
    → IsWrittenBy by.leader_eq by.eq (record no_changes { log_from = Some entry.log_id.index }) old new

-- the committed log id, if it has risen
abbrev pub risen_to : {C : Type 0} → (C → C → Ordering) → Option (LogIdOf C) → Option (LogIdOf C)
    → Option (LogIdOf C)
risen_to cmp old new = if id_lt cmp old new then new else None

-- the index of the first of these entries, if there are any
abbrev pub first_index_of : {C K N D : Type 0} → List (EntryOf C K N D) → Option ℕ
first_index_of [] = None
first_index_of (e ∷ es) = Some e.log_id.index

-- the index at which a log is truncated, unless it ends before that
abbrev pub truncated_at : {K N I L C : Type 0} → ℕ → RaftStateIn K N I L C → Option ℕ
truncated_at since s = if ends_before since s then None else Some since

-- the index from which on a request with these entries changes the log, by the answer: that of the
-- first entry that the log does not have, or that of a conflict
abbrev pub changed_from : {K N I L C D : Type 0} → (C → C → Bool) → Outcome L C
    → List (EntryOf C K N D) → RaftStateIn K N I L C → Option ℕ
changed_from eq (Matches upto) es s = first_index_of (entries_to_append eq s es)
changed_from eq (Conflict at last) es s = truncated_at at s
changed_from eq (HigherVote vote) es s = None

-- what changes say after a request with these entries:
-- - whether the vote is another one;
-- - the index from which on the log has changed, and no lesser one;
-- - a disk that had the vote and the log before and follows the changes has those after the request;
-- - the committed log id, if it has risen.
pub record Writes {K N I L C D : Type 0} (ord : OrdMembers C) (same_leader : L → L → Bool)
    (es : List (EntryOf C K N D)) (outcome : Outcome L C) (changes : Changes C)
    (old new : RaftStateIn K N I L C) : Type 0 where
  pub vote : changes.vote ≡ not (same_vote same_leader (vote_of new) (vote_of old))
  pub from : changes.log_from ≡ changed_from ord.eq outcome es old
  pub written : IsWrittenBy same_leader ord.eq changes old new
  pub committed : changes.committed ≡ risen_to ord.cmp old.committed new.committed

-- the changes of a request to install a snapshot that has changed nothing
abbrev pub nothing_installed : SnapshotChanges
nothing_installed = record { vote = false; installed = false; drops_log = false }

-- a log on a disk that follows changes after a snapshot up to a log id: if the snapshot is installed,
-- the log is purged to that log id, or dropped first
abbrev pub log_with_snapshot : {C : Type 0} → SnapshotChanges → LogIdOf C → List (LogIdOf C)
    → List (LogIdOf C)
log_with_snapshot changes upto log =
    if changes.installed then log_after_purge (if changes.drops_log then [] else log) upto else log

-- what changes say of the log after a request to install a snapshot:
-- - whether the snapshot was installed: the leader is followed, which is given, and the snapshot ends
--   past what was committed;
-- - a disk that has the old log and follows the changes has the new log;
-- - the whole log is dropped only if it does not have the last log id of the snapshot.
pub record WritesInstall {K N I L C : Type 0} (ord : OrdMembers C) (followed : Bool)
    (meta : SnapshotMetaOf C K N) (changes : SnapshotChanges) (old new : RaftStateIn K N I L C)
    : Type 0 where
  pub installed : changes.installed ≡ (followed && id_lt ord.cmp old.committed meta.last_log_id)
  pub log : IfSome meta.last_log_id
      (λ upto. full_log new.log_ids ≡ log_with_snapshot changes upto (full_log old.log_ids))
  pub needed : IsTrue changes.drops_log
      → has_id ord.eq (full_log old.log_ids) meta.last_log_id ≡ false

-- what changes say after a request to install a snapshot: whether the vote is another one, and what
-- is to be written of the snapshot and of the log
pub record WritesSnapshot {K N I L C : Type 0} (ord : OrdMembers C) (same_leader : L → L → Bool)
    (followed : Bool) (meta : SnapshotMetaOf C K N) (changes : SnapshotChanges)
    (old new : RaftStateIn K N I L C) : Type 0 where
  pub vote : changes.vote ≡ not (same_vote same_leader (vote_of new) (vote_of old))
  pub install : WritesInstall ord followed meta changes old new
