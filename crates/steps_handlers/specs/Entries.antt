-- Log ids of entries, and what a log and its memberships are once it is truncated.
use Rattle.std.specs.Prelude.{◌≡◌, ℕ, Bool, true, false, ◌-◌, ◌&&◌, ◌||◌, nat_le, List, [], ◌∷◌, ◌++◌, Option, Some, None, map, is_some, slice_get, if◌then◌else◌}
use Rattle.std.specs.declared.cmp.Ordering.{Ordering}
use Rattle.raft_base.specs.LogId.{id_le, id_lt, index_of, same_ids}
use Rattle.raft_base.specs.LogIndex.{index_le, index_lt}
use Rattle.raft_base.specs.declared.log_id.LogIdOf.{LogIdOf}
use Rattle.steps_handlers.specs.declared.error.AppendError.{AppendError}
use Rattle.steps_handlers.specs.declared.error.AppendError.TheVariants.{CommittedNotLogged, MembershipNotInOrder, NotInOrder, OutOfMemory, TruncatesCommitted}
use Rattle.raft_members.specs.membership.Stored.{log_id_of}
use Rattle.raft_state.specs.Accepted.{accepted_upto}
use Rattle.raft_state.specs.raft_state.Appended.{are_consecutive, last_stored, memberships_follow}
use Rattle.raft_state.specs.entry.Entry.{payload_membership}
use Rattle.raft_state.specs.log_id_list.FullLog.{full_log}
use Rattle.raft_state.specs.log_id_list.LogConditions.{all_follow}
use Rattle.raft_state.specs.log_id_list.LogEdits.{front}
use Rattle.raft_state.specs.log_id_list.LogReads.{id_at, last_id}
use Rattle.raft_state.specs.membership_state.MembershipMoves.{after_truncate}
use Rattle.raft_state.specs.membership_state.Memberships.{Memberships}
use Rattle.raft_state.specs.raft_state.Truncate.{can_truncate_log}
use Rattle.raft_state.specs.declared.accepted.AcceptedIn.{AcceptedIn}
use Rattle.raft_state.specs.declared.entry.EntryOf.{EntryOf}
use Rattle.raft_state.specs.declared.raft_state.RaftStateIn.{RaftStateIn}

-- the log ids of entries
abbrev pub entry_ids : {C K N D : Type 0} → List (EntryOf C K N D) → List (LogIdOf C)
entry_ids es = map (λ e. e.log_id) es

-- the log ends before an index
abbrev pub ends_before : {K N I L C : Type 0} → ℕ → RaftStateIn K N I L C → Bool
ends_before since s = index_lt (index_of (last_id (full_log s.log_ids))) (Some since)

-- the log may be truncated at an index, or ends before it
abbrev pub may_cut : {K N I L C : Type 0} → (C → C → Ordering) → ℕ → RaftStateIn K N I L C → Bool
may_cut cmp since s = ends_before since s || can_truncate_log cmp since s

-- the last log id below an index
abbrev pub last_below : {K N I L C : Type 0} → ℕ → RaftStateIn K N I L C → Option (LogIdOf C)
last_below since s = last_id (front (full_log s.log_ids) since)

-- the memberships once the log is truncated at an index, if it does not end before it
abbrev pub memberships_below : {K N I L C : Type 0} → ℕ → RaftStateIn K N I L C → Memberships C K N
memberships_below since s =
    if ends_before since s then s.membership_state else after_truncate since s.membership_state

-- what is accepted then: no more than the log that is left
abbrev pub accepted_below : {K N I L C : Type 0} → (C → C → Ordering) → ℕ → RaftStateIn K N I L C
    → AcceptedIn L C
accepted_below cmp since s =
    if ends_before since s then s.accepted else accepted_upto cmp s.accepted (last_below since s)

-- the log id of the effective membership then
abbrev pub effective_below : {K N I L C : Type 0} → ℕ → RaftStateIn K N I L C → Option (LogIdOf C)
effective_below since s = log_id_of (memberships_below since s).effective

-- entries are in order after a last log id: their indexes are consecutive, and their leaders do not
-- fall
abbrev pub are_in_order : {C K N D : Type 0} → (C → C → Ordering) → Option (LogIdOf C)
    → List (EntryOf C K N D) → Bool
are_in_order cmp last es = all_follow cmp last (entry_ids es) && are_consecutive last (entry_ids es)

-- each membership of entries comes after the one before it, and the first one after an effective one
abbrev pub has_memberships_in_order : {C K N D : Type 0} → (C → C → Ordering) → Option (LogIdOf C)
    → List (EntryOf C K N D) → Bool
has_memberships_in_order cmp effective es =
    memberships_follow cmp (λ e. e.log_id) (λ e. is_some (payload_membership e.payload)) effective es

-- entries may be appended after a last log id and an effective membership: they are in order, and
-- so are their memberships
abbrev pub may_append_after : {C K N D : Type 0} → (C → C → Ordering) → Option (LogIdOf C)
    → Option (LogIdOf C) → List (EntryOf C K N D) → Bool
may_append_after cmp last effective es =
    are_in_order cmp last es && has_memberships_in_order cmp effective es

-- the log id of the effective membership once entries are appended
abbrev pub effective_with : {C K N D : Type 0} → Option (LogIdOf C) → List (EntryOf C K N D)
    → Option (LogIdOf C)
effective_with effective es =
    last_stored (λ e. e.log_id) (λ e. is_some (payload_membership e.payload)) effective es

-- a log has a log id, or the log id is absent
abbrev pub has_id : {C : Type 0} → (C → C → Bool) → List (LogIdOf C) → Option (LogIdOf C) → Bool
has_id eq log None = true
has_id eq log (Some id) = same_ids eq (id_at log id.index) (Some id)

-- a log has a log id once these log ids are in place of it from the index of the first one on
abbrev pub has_with : {C : Type 0} → (C → C → Bool) → List (LogIdOf C) → List (LogIdOf C)
    → Option (LogIdOf C) → Bool
has_with eq log new None = true
has_with eq log [] (Some id) = same_ids eq (id_at log id.index) (Some id)
has_with eq log (first ∷ new) (Some id) =
    if nat_le first.index id.index
    then same_ids eq (slice_get (first ∷ new) (id.index - first.index)) (Some id)
    else same_ids eq (id_at log id.index) (Some id)

-- a log id may be committed with this effective membership: if that is at most the log id, its
-- index is not the greater one
abbrev pub allows_commit : {C : Type 0} → (C → C → Ordering) → Option (LogIdOf C)
    → Option (LogIdOf C) → Bool
allows_commit cmp effective id =
    if id_le cmp effective id then index_le (index_of effective) (index_of id) else true

-- what is past the committed log id may be committed once the log has new entries
abbrev pub may_commit_with : {C K N D : Type 0} → (C → C → Bool) → (C → C → Ordering)
    → List (LogIdOf C) → Option (LogIdOf C) → List (EntryOf C K N D) → Option (LogIdOf C)
    → Option (LogIdOf C) → Bool
may_commit_with eq cmp log effective new before id =
    if id_lt cmp before id
    then has_with eq log (entry_ids new) id && allows_commit cmp effective id else true

-- the log has, with new entries, what is to be committed past the committed log id
abbrev pub has_committed_with : {C K N D : Type 0} → (C → C → Bool) → (C → C → Ordering)
    → List (LogIdOf C) → Option (LogIdOf C) → List (EntryOf C K N D) → Option (LogIdOf C) → Bool
has_committed_with eq cmp log before new id =
    if id_lt cmp before id then has_with eq log (entry_ids new) id else true

-- an effective membership allows what is to be committed past the committed log id
abbrev pub allows_commit_past : {C : Type 0} → (C → C → Ordering) → Option (LogIdOf C)
    → Option (LogIdOf C) → Option (LogIdOf C) → Bool
allows_commit_past cmp effective before id =
    if id_lt cmp before id then allows_commit cmp effective id else true

-- what a server tests before it takes entries: whether nothing that is committed is truncated, whether
-- the entries are in order, whether their memberships are and allow the commit, and whether the log
-- then has what is to be committed
pub record TakeTests : Type 0 where
  pub keeps : Bool
  pub order : Bool
  pub members : Bool
  pub has : Bool

-- all tests hold
abbrev pub tests_hold : TakeTests
tests_hold = record { keeps = true; order = true; members = true; has = true }

-- an error comes only if its test does not hold. An allocation may fail at any time
abbrev pub RefusedUnless : TakeTests → AppendError → Type 0
RefusedUnless t TruncatesCommitted = t.keeps ≡ false
RefusedUnless t NotInOrder = t.order ≡ false
RefusedUnless t MembershipNotInOrder = t.members ≡ false
RefusedUnless t CommittedNotLogged = t.has ≡ false
RefusedUnless t OutOfMemory = Unit {0}

-- new entries truncate nothing that is committed
abbrev pub keeps_committed : {K N I L C D : Type 0} → (C → C → Ordering) → List (EntryOf C K N D)
    → RaftStateIn K N I L C → Bool
keeps_committed cmp [] s = true
keeps_committed cmp (e ∷ es) s = may_cut cmp e.log_id.index s

-- the last log id before new entries
abbrev pub last_before : {K N I L C D : Type 0} → List (EntryOf C K N D) → RaftStateIn K N I L C
    → Option (LogIdOf C)
last_before [] s = last_id (full_log s.log_ids)
last_before (e ∷ es) s = last_below e.log_id.index s

-- the log id of the effective membership before new entries
abbrev pub effective_before : {K N I L C D : Type 0} → List (EntryOf C K N D)
    → RaftStateIn K N I L C → Option (LogIdOf C)
effective_before [] s = log_id_of s.membership_state.effective
effective_before (e ∷ es) s = effective_below e.log_id.index s

-- new entries may take the place of the end of a log: they truncate nothing that is committed, and
-- they are in order there, and so are their memberships
abbrev pub may_replace : {K N I L C D : Type 0} → (C → C → Ordering) → List (EntryOf C K N D)
    → RaftStateIn K N I L C → Bool
may_replace cmp new s =
    keeps_committed cmp new s && may_append_after cmp (last_before new s) (effective_before new s) new

-- new entries may take the place of the end of a log, and a log id may be committed then
abbrev pub may_take_new : {K N I L C D : Type 0} → (C → C → Bool) → (C → C → Ordering)
    → List (EntryOf C K N D) → Option (LogIdOf C) → RaftStateIn K N I L C → Bool
may_take_new eq cmp new id s =
    keeps_committed cmp new s
    && (may_append_after cmp (last_before new s) (effective_before new s) new
    && may_commit_with eq cmp (full_log s.log_ids) (effective_with (effective_before new s) new) new
    s.committed id)

-- the memberships of new entries are in order, and the last one allows the commit of a log id
abbrev pub has_members_in_order : {K N I L C D : Type 0} → (C → C → Ordering) → List (EntryOf C K N D)
    → Option (LogIdOf C) → RaftStateIn K N I L C → Bool
has_members_in_order cmp new id s =
    has_memberships_in_order cmp (effective_before new s) new
    && allows_commit_past cmp (effective_with (effective_before new s) new) s.committed id

-- the log ids up to an index, and then those of new entries
abbrev pub log_with_new : {C K N D : Type 0} → List (LogIdOf C) → List (EntryOf C K N D)
    → List (LogIdOf C)
log_with_new log [] = log
log_with_new log (e ∷ es) = front log e.log_id.index ++ entry_ids (e ∷ es)
