-- What a follower makes of a leader's request to append entries.
use Rattle.std.specs.Prelude.{◌≡◌, ℕ, ◌<◌, Bool, true, false, ◌&&◌, ◌⊎◌, List, [], ◌∷◌, Option, Some, None, IsTrue, drop, if◌then◌else◌}
use Rattle.std.specs.List.{list_all, prefix_len}
use Rattle.std.specs.Option.{option_or}
use Rattle.std.specs.declared.cmp.Ordering.{Ordering}
use Rattle.raft_base.specs.LogId.{id_lt, index_of, same_ids}
use Rattle.raft_base.specs.declared.log_id.LogIdOf.{LogIdOf}
use Rattle.raft_base.specs.declared.vote.VoteIn.{VoteIn}
use Rattle.steps_handlers.specs.Entries.{accepted_below, are_in_order, entry_ids, has_committed_with, has_id, has_members_in_order, keeps_committed, last_before, log_with_new, may_cut, may_replace, may_take_new, memberships_below, tests_hold, RefusedUnless, TakeTests}
use Rattle.steps_handlers.specs.declared.error.AppendError.{AppendError}
use Rattle.steps_handlers.specs.declared.message.AppendEntries.{AppendEntries}
use Rattle.steps_handlers.specs.declared.message.Outcome.{Outcome}
use Rattle.steps_handlers.specs.declared.message.Response.{Response}
use Rattle.steps_handlers.specs.declared.message.Outcome.TheVariants.{Matches, Conflict, HigherVote}
use Rattle.raft_progress.specs.progress.Comparisons.{OrdMembers}
use Rattle.raft_state.specs.raft_state.Appended.{AppendsMemberships}
use Rattle.raft_state.specs.entry.Entry.{payload_membership}
use Rattle.raft_state.specs.log_id_list.FullLog.{end_index, full_log, same_log}
use Rattle.raft_state.specs.log_id_list.LogEdits.{front}
use Rattle.raft_state.specs.log_id_list.LogReads.{id_at, last_id}
use Rattle.raft_state.specs.membership_state.MembershipMoves.{after_commit}
use Rattle.raft_state.specs.membership_state.Memberships.{Memberships}
use Rattle.raft_state.specs.raft_state.Sound.{purged_or_logged}
use Rattle.raft_state.specs.raft_state.VoteAndLog.{vote_of}
use Rattle.raft_state.specs.declared.accepted.AcceptedIn.{AcceptedIn}
use Rattle.raft_state.specs.declared.entry.EntryOf.{EntryOf}
use Rattle.raft_state.specs.declared.raft_state.RaftStateIn.{RaftStateIn}

-- a response repeats what tells its request apart: the committed leader id of the request's leader, which
-- is given, and the number of the request
pub record Repeats {K N L C D : Type 0} (leader_id : C) (sent : AppendEntries L C K N D)
    (response : Response L C) : Type 0 where
  pub leader : response.leader_id ≡ leader_id
  pub request : response.request ≡ sent.request

-- an answer that the leader is not followed, because of a vote of which this holds
abbrev pub IfHigherVote : {L C : Type 0} → Outcome L C → (VoteIn L → Type 0) → Type 0
IfHigherVote (Matches upto) p = Unit {0}
IfHigherVote (Conflict at last) p = Unit {0}
IfHigherVote (HigherVote vote) p = p vote

-- the log id of the last of these entries, or `prev` where there is none
abbrev pub last_id_of_request : {C K N D : Type 0} → Option (LogIdOf C) → List (EntryOf C K N D)
    → Option (LogIdOf C)
last_id_of_request prev es = option_or (last_id (entry_ids es)) prev

-- the log of a state has an entry, or its index is purged
abbrev pub has_entry : {K N I L C D : Type 0} → (C → C → Bool) → RaftStateIn K N I L C
    → EntryOf C K N D → Bool
has_entry eq s e = purged_or_logged eq s (Some e.log_id)

-- the log has each of these entries
abbrev pub has_all : {K N I L C D : Type 0} → (C → C → Bool) → RaftStateIn K N I L C
    → List (EntryOf C K N D) → Bool
has_all eq s es = list_all (has_entry eq s) es

-- the first entry that a log does not have, and those after it
abbrev pub entries_to_append : {K N I L C D : Type 0} → (C → C → Bool) → RaftStateIn K N I L C
    → List (EntryOf C K N D) → List (EntryOf C K N D)
entries_to_append eq s es = drop (prefix_len (has_entry eq s) es) es

-- the index from which on new entries take the place of a log: past its end if there are none
abbrev pub replaced_since : {C K N D : Type 0} → List (LogIdOf C) → List (EntryOf C K N D) → ℕ
replaced_since log [] = end_index log
replaced_since log (e ∷ es) = e.log_id.index

-- below an index a log has what it had before
abbrev pub KeepsBelow : {C : Type 0} → (C → C → Bool) → ℕ → List (LogIdOf C) → List (LogIdOf C)
    → Type 0
KeepsBelow eq since old new =
    (i : ℕ) → i < since → IsTrue (same_ids eq (id_at new i) (id_at old i))

-- the lesser one of two log ids
abbrev pub lesser_id : {C : Type 0} → (C → C → Ordering) → Option (LogIdOf C) → Option (LogIdOf C)
    → Option (LogIdOf C)
lesser_id cmp a b = if id_lt cmp a b then a else b

-- the greater one of two log ids
abbrev pub greater_id : {C : Type 0} → (C → C → Ordering) → Option (LogIdOf C)
    → Option (LogIdOf C) → Option (LogIdOf C)
greater_id cmp a b = if id_lt cmp a b then b else a

-- the log of a state before these new entries are appended
abbrev pub log_before : {K N I L C D : Type 0} → List (EntryOf C K N D) → RaftStateIn K N I L C
    → List (LogIdOf C)
log_before [] s = full_log s.log_ids
log_before (e ∷ es) s = front (full_log s.log_ids) e.log_id.index

-- the memberships of a state before these new entries are appended
abbrev pub memberships_before : {K N I L C D : Type 0} → List (EntryOf C K N D)
    → RaftStateIn K N I L C → Memberships C K N
memberships_before [] s = s.membership_state
memberships_before (e ∷ es) s = memberships_below e.log_id.index s

-- what is accepted in a state before these new entries are appended
abbrev pub accepted_before : {K N I L C D : Type 0} → (C → C → Ordering) → List (EntryOf C K N D)
    → RaftStateIn K N I L C → AcceptedIn L C
accepted_before cmp [] s = s.accepted
accepted_before cmp (e ∷ es) s = accepted_below cmp e.log_id.index s

-- each membership of these new entries was made effective, one after the other, in place of those
-- of the log that they replace, and then what is committed up to a log id
abbrev pub TakesMemberships : {K N I L C D : Type 0} → (C → C → Ordering) → (K → K → Bool)
    → (N → N → Bool) → List (EntryOf C K N D) → Option (LogIdOf C) → RaftStateIn K N I L C
    → Memberships C K N → Type 0
TakesMemberships {K} {N} {I} {L} {C} cmp eq same new upto s m =
    (appended : Memberships C K N) × AppendsMemberships eq same (λ e. e.log_id)
    (λ e. payload_membership e.payload) new (memberships_before new s) appended
    × (m ≡ (if id_lt cmp s.committed upto then after_commit cmp upto appended else appended))

-- the log, the memberships and what is accepted are as they were
pub record IsLogKept {K N I L C : Type 0} (old new : RaftStateIn K N I L C) : Type 0 where
  pub log : new.log_ids ≡ old.log_ids
  pub memberships : new.membership_state ≡ old.membership_state
  pub accepted : new.accepted ≡ old.accepted

-- the log, the memberships and what is accepted are cut off at the first of these entries
pub record IsCutBefore {K N I L C D : Type 0} (cmp : C → C → Ordering) (es : List (EntryOf C K N D))
    (old new : RaftStateIn K N I L C) : Type 0 where
  pub log : full_log new.log_ids ≡ log_before es old
  pub memberships : new.membership_state ≡ memberships_before es old
  pub accepted : new.accepted ≡ accepted_before cmp es old

-- the log has these entries, and the memberships and what is accepted are those with them
pub record HasReplaced {K N I L C D : Type 0} (ord : OrdMembers C) (id_eq : K → K → Bool)
    (same : N → N → Bool) (es : List (EntryOf C K N D)) (old new : RaftStateIn K N I L C) : Type 0 where
  pub log : IsTrue (same_log ord.eq (full_log new.log_ids) (log_with_new (full_log old.log_ids) es))
  pub memberships : AppendsMemberships id_eq same (λ e. e.log_id) (λ e. payload_membership e.payload) es
      (memberships_before es old) new.membership_state
  pub accepted : new.accepted ≡ accepted_before ord.cmp es old

-- a log id has this index, and the log does not have it, nor is its index purged
abbrev pub IsConflict : {K N I L C : Type 0} → (C → C → Bool) → ℕ → Option (LogIdOf C)
    → RaftStateIn K N I L C → Type 0
IsConflict eq at prev s = (index_of prev ≡ Some at) × (purged_or_logged eq s prev ≡ false)

-- the log may be truncated at the index of a log id that it does not have
abbrev pub may_cut_at : {K N I L C : Type 0} → (C → C → Ordering) → Option (LogIdOf C)
    → RaftStateIn K N I L C → Bool
may_cut_at cmp None s = true
may_cut_at cmp (Some id) s = may_cut cmp id.index s

-- a request to append entries may be taken:
-- - the entries are in order after `prev`;
-- - if the log has `prev`, the new entries may take the place of the end of the log, and the lesser
--   one of the leader's committed log id and the last one may be committed;
-- - otherwise the log may be truncated at the index of `prev`.
abbrev pub may_take : {K N I L C D : Type 0} → (C → C → Bool) → (C → C → Ordering)
    → Option (LogIdOf C) → List (EntryOf C K N D) → Option (LogIdOf C) → RaftStateIn K N I L C → Bool
may_take eq cmp prev es committed s =
    are_in_order cmp prev es
    && (if purged_or_logged eq s prev
    then may_take_new eq cmp (entries_to_append eq s es)
    (lesser_id cmp committed (last_id_of_request prev es)) s
    else may_cut_at cmp prev s)

-- a request to append entries changes nothing but the vote, as most heartbeats do, and a request that
-- comes twice:
-- - its entries are in order after `prev`, and the log has `prev` and each of them;
-- - the leader's committed log id or the last log id of the request is not past what is committed.
pub record ChangesNothing {K N I L C D : Type 0} (eq : C → C → Bool) (cmp : C → C → Ordering)
    (request : AppendEntries L C K N D) (s : RaftStateIn K N I L C) : Type 0 where
  pub in_order : IsTrue (are_in_order cmp request.prev request.entries.items)
  pub has_prev : IsTrue (purged_or_logged eq s request.prev)
  pub has_entries : IsTrue (has_all eq s request.entries.items)
  pub committed : (id_lt cmp s.committed request.committed
      && id_lt cmp s.committed (last_id_of_request request.prev request.entries.items)) ≡ false

-- the tests of entries after a log id that the log has, and of a log id that is to be committed with
-- them
abbrev pub take_tests : {K N I L C D : Type 0} → (C → C → Bool) → (C → C → Ordering)
    → Option (LogIdOf C) → List (EntryOf C K N D) → Option (LogIdOf C) → RaftStateIn K N I L C
    → TakeTests
take_tests eq cmp prev es id s = record tests_hold {
  keeps = keeps_committed cmp (entries_to_append eq s es) s;
  order = are_in_order cmp prev es
      && are_in_order cmp (last_before (entries_to_append eq s es) s) (entries_to_append eq s es);
  members = has_members_in_order cmp (entries_to_append eq s es) id s;
  has = has_committed_with eq cmp (full_log s.log_ids) s.committed (entries_to_append eq s es) id;
}

-- the tests of a request to append entries, by whether the log has `prev`: if it has not, the entries
-- are in order, and the log may be truncated at the index of `prev`
abbrev pub append_tests : {K N I L C D : Type 0} → Bool → (C → C → Bool) → (C → C → Ordering)
    → Option (LogIdOf C) → List (EntryOf C K N D) → Option (LogIdOf C) → RaftStateIn K N I L C
    → TakeTests
append_tests true eq cmp prev es id s = take_tests eq cmp prev es id s
append_tests false eq cmp prev es id s = record tests_hold {
  keeps = may_cut_at cmp prev s;
  order = are_in_order cmp prev es;
}

-- the log has a log id `prev` and each of these entries:
-- - the entries are in order after `prev`, what is new of them could replace the end of the log, and
--   the memberships allowed the commit;
-- - below the first new entry the log is as it was, and it ends with the last one;
-- - the memberships are those of the log, and a log id is committed, if it is past what was.
pub record Took {K N I L C D : Type 0} (ord : OrdMembers C) (id_eq : K → K → Bool)
    (same : N → N → Bool) (prev : Option (LogIdOf C)) (es : List (EntryOf C K N D))
    (id : Option (LogIdOf C)) (old new : RaftStateIn K N I L C) : Type 0 where
  pub has_prev : IsTrue (purged_or_logged ord.eq new prev)
  pub has_entries : IsTrue (has_all ord.eq new es)
  pub in_order : IsTrue (are_in_order ord.cmp prev es)
  pub may : IsTrue (may_replace ord.cmp (entries_to_append ord.eq old es) old)
  pub allowed : IsTrue (has_members_in_order ord.cmp (entries_to_append ord.eq old es) id old)
  pub log : IsTrue (same_log ord.eq (full_log new.log_ids)
      (log_with_new (full_log old.log_ids) (entries_to_append ord.eq old es)))
  pub kept : KeepsBelow ord.eq (replaced_since (full_log old.log_ids) (entries_to_append ord.eq old es))
      (full_log old.log_ids) (full_log new.log_ids)
  pub nothing_new : entries_to_append ord.eq old es ≡ [] → new.log_ids ≡ old.log_ids
  pub ends : last_id (full_log new.log_ids)
      ≡ option_or (last_id (entry_ids (entries_to_append ord.eq old es))) (last_id (full_log old.log_ids))
  pub memberships : TakesMemberships ord.cmp id_eq same (entries_to_append ord.eq old es) id old
      new.membership_state
  pub accepted : new.accepted ≡ accepted_before ord.cmp (entries_to_append ord.eq old es) old
  pub committed : new.committed ≡ greater_id ord.cmp old.committed id
  pub has_committed : IsTrue (id_lt ord.cmp old.committed id)
      → IsTrue (has_id ord.eq (full_log new.log_ids) id)

-- the entries are in order; the log did not have `prev`, and was truncated at its index
pub record CutAt {K N I L C D : Type 0} (ord : OrdMembers C) (at : ℕ) (prev : Option (LogIdOf C))
    (es : List (EntryOf C K N D)) (old new : RaftStateIn K N I L C) : Type 0 where
  pub in_order : IsTrue (are_in_order ord.cmp prev es)
  pub conflict : IsConflict ord.eq at prev old
  pub may : IsTrue (may_cut ord.cmp at old)
  pub truncated : full_log new.log_ids ≡ front (full_log old.log_ids) at
  pub memberships : new.membership_state ≡ memberships_below at old
  pub accepted : new.accepted ≡ accepted_below ord.cmp at old
  pub committed : new.committed ≡ old.committed

-- what a follower has made of a request to append entries, by its answer
abbrev pub Answers : {K N I L C D : Type 0} → OrdMembers C → (K → K → Bool) → (N → N → Bool)
    → AppendEntries L C K N D → Outcome L C → (old new : RaftStateIn K N I L C) → Type 0
Answers ord id_eq same request (Matches upto) old new =
    (upto ≡ last_id_of_request request.prev request.entries.items)
    × Took ord id_eq same request.prev request.entries.items
    (lesser_id ord.cmp request.committed (last_id_of_request request.prev request.entries.items)) old new
Answers ord id_eq same request (Conflict at last) old new =
    CutAt ord at request.prev request.entries.items old new
    × (last ≡ index_of (last_id (full_log new.log_ids)))
Answers ord id_eq same request (HigherVote vote) old new = (vote ≡ vote_of old) × (new ≡ old)

-- the log had `prev`, the entries are in order, and what is new of them truncates nothing committed
pub record HadPrev {K N I L C D : Type 0} (ord : OrdMembers C) (prev : Option (LogIdOf C))
    (es : List (EntryOf C K N D)) (old : RaftStateIn K N I L C) : Type 0 where
  pub has_prev : IsTrue (purged_or_logged ord.eq old prev)
  pub in_order : IsTrue (are_in_order ord.cmp prev es)
  pub keeps : IsTrue (keeps_committed ord.cmp (entries_to_append ord.eq old es) old)

-- what an error leaves of the log, the memberships and what is accepted: all is as it was; or the log
-- had `prev`, and all is cut off at the first new entry, or the new entries are there too
abbrev pub IsLeftBy : {K N I L C D : Type 0} → OrdMembers C → (K → K → Bool) → (N → N → Bool)
    → Option (LogIdOf C) → List (EntryOf C K N D) → (old new : RaftStateIn K N I L C) → Type 0
IsLeftBy ord id_eq same prev es old new =
    IsLogKept old new
    ⊎ (HadPrev ord prev es old
    × (IsCutBefore ord.cmp (entries_to_append ord.eq old es) old new
    ⊎ HasReplaced ord id_eq same (entries_to_append ord.eq old es) old new))

-- entries were refused by one of these tests, or an allocation failed. Below the first new entry the
-- log is as it was, and what is committed is as it was. The vote may have changed
pub record Refused {K N I L C D : Type 0} (ord : OrdMembers C) (id_eq : K → K → Bool)
    (same : N → N → Bool) (tests : TakeTests) (prev : Option (LogIdOf C)) (es : List (EntryOf C K N D))
    (refusal : AppendError) (old new : RaftStateIn K N I L C) : Type 0 where
  pub reason : RefusedUnless tests refusal
  pub kept : KeepsBelow ord.eq (replaced_since (full_log old.log_ids) (entries_to_append ord.eq old es))
      (full_log old.log_ids) (full_log new.log_ids)
  pub left : IsLeftBy ord id_eq same prev es old new
  pub rest : new ≡ record old {
    vote = new.vote;
    log_ids = new.log_ids;
    membership_state = new.membership_state;
    accepted = new.accepted;
  }

-- a request to append entries was refused, or an allocation failed
abbrev pub Refuses : {K N I L C D : Type 0} → OrdMembers C → (K → K → Bool) → (N → N → Bool)
    → AppendEntries L C K N D → AppendError → (old new : RaftStateIn K N I L C) → Type 0
Refuses ord id_eq same request refusal old new =
    Refused ord id_eq same
    (append_tests (purged_or_logged ord.eq old request.prev) ord.eq ord.cmp request.prev
    request.entries.items (lesser_id ord.cmp request.committed
    (last_id_of_request request.prev request.entries.items)) old)
    request.prev request.entries.items refusal old new
