-- How the end of a log is replaced by new entries, and what is tested before.
use Rattle.std.specs.Option.{option_or}
use Rattle.std.specs.Prelude.{◌≡◌, ℕ, Bool, true, false, ◌&&◌, ◌⊎◌, ◌++◌, List, [], ◌∷◌, Option, IsTrue, if◌then◌else◌, ◌+◌, nat_eq, not, is_some, IfSome}
use Rattle.std.specs.declared.cmp.Ordering.{Ordering}
use Rattle.raft_base.specs.LogId.{id_lt}
use Rattle.raft_base.specs.declared.log_id.LogIdOf.{LogIdOf}
use Rattle.steps_handlers.specs.Append.{replaced_since, KeepsBelow, memberships_before, accepted_before, IsLogKept, IsCutBefore}
use Rattle.steps_handlers.specs.Entries.{accepted_below, are_in_order, effective_before, effective_with, entry_ids, has_id, has_memberships_in_order, keeps_committed, last_before, log_with_new, may_cut, memberships_below, tests_hold, RefusedUnless, TakeTests, ends_before, may_append_after}
use Rattle.steps_handlers.specs.Written.{truncated_at}
use Rattle.steps_handlers.specs.declared.error.AppendError.{AppendError}
use Rattle.raft_members.specs.membership.Stored.{log_id_of}
use Rattle.raft_progress.specs.progress.Comparisons.{OrdMembers}
use Rattle.raft_state.specs.declared.entry.EntryOf.{EntryOf}
use Rattle.raft_state.specs.declared.raft_state.RaftStateIn.{RaftStateIn}
use Rattle.raft_state.specs.entry.Entry.{payload_membership}
use Rattle.raft_state.specs.log_id_list.FullLog.{full_log, same_log}
use Rattle.raft_state.specs.log_id_list.LogEdits.{front}
use Rattle.raft_state.specs.log_id_list.LogKept.{HasIds, KeepsIds}
use Rattle.raft_state.specs.log_id_list.LogReads.{last_id}
use Rattle.raft_state.specs.raft_state.Appended.{AppendsMemberships}
use Rattle.raft_state.specs.raft_state.Commit.{state_may_commit}

-- an entry stores a membership
abbrev pub stores_membership : {C K N D : Type 0} → EntryOf C K N D → Bool
stores_membership e = is_some (payload_membership e.payload)

-- entries have consecutive indexes from this one on, are of this leader, and store no membership
abbrev pub continue_from : {C K N D : Type 0} → (C → C → Bool) → C → ℕ → List (EntryOf C K N D) → Bool
continue_from eq leader i [] = true
continue_from eq leader i (e ∷ es) =
    nat_eq e.log_id.index i
    && (eq e.log_id.leader_id leader && (not (stores_membership e) && continue_from eq leader (i + 1) es))

-- entries have consecutive indexes, are of one leader, and store no membership
abbrev pub are_plain : {C K N D : Type 0} → (C → C → Bool) → List (EntryOf C K N D) → Bool
are_plain eq [] = true
are_plain eq (e ∷ es) =
    not (stores_membership e) && continue_from eq e.log_id.leader_id (e.log_id.index + 1) es

-- entries may be appended to a log: they are in order after its end, and so are their memberships
abbrev pub may_extend : {K N I L C D : Type 0} → (C → C → Ordering) → List (EntryOf C K N D)
    → RaftStateIn K N I L C → Bool
may_extend cmp new s =
    may_append_after cmp (last_id (full_log s.log_ids)) (log_id_of s.membership_state.effective) new

-- the tests of new entries
abbrev pub new_tests : {K N I L C D : Type 0} → (C → C → Ordering) → List (EntryOf C K N D)
    → RaftStateIn K N I L C → TakeTests
new_tests cmp new s = record tests_hold {
  keeps = keeps_committed cmp new s;
  order = are_in_order cmp (last_before new s) new;
  members = has_memberships_in_order cmp (effective_before new s) new;
}

-- the tests of entries that are to be appended
abbrev pub end_tests : {K N I L C D : Type 0} → (C → C → Ordering) → List (EntryOf C K N D)
    → RaftStateIn K N I L C → TakeTests
end_tests cmp new s = record tests_hold {
  order = are_in_order cmp (last_id (full_log s.log_ids)) new;
  members = has_memberships_in_order cmp (log_id_of s.membership_state.effective) new;
}

-- the log has what is to be committed past the committed log id
abbrev pub has_past_committed : {K N I L C : Type 0} → (C → C → Bool) → (C → C → Ordering)
    → Option (LogIdOf C) → RaftStateIn K N I L C → Bool
has_past_committed eq cmp id s =
    if id_lt cmp s.committed id then has_id eq (full_log s.log_ids) id else true

-- the tests of a log id that is to be committed
abbrev pub commit_tests : {K N I L C : Type 0} → (C → C → Bool) → (C → C → Ordering)
    → Option (LogIdOf C) → RaftStateIn K N I L C → TakeTests
commit_tests eq cmp id s = record tests_hold {
  members = state_may_commit cmp id s;
  has = has_past_committed eq cmp id s;
}

-- a log was truncated at an index, unless it ended before it, and with it what was accepted and the
-- memberships; nothing that is committed was lost
pub record IsCut {K N I L C : Type 0} (ord : OrdMembers C) (since : ℕ) (old new : RaftStateIn K N I L C)
    : Type 0 where
  pub keeps : IsTrue (may_cut ord.cmp since old)
  pub log : full_log new.log_ids ≡ front (full_log old.log_ids) since
  pub memberships : new.membership_state ≡ memberships_below since old
  pub accepted : new.accepted ≡ accepted_below ord.cmp since old
  pub rest : new ≡ record old {
    log_ids = new.log_ids;
    membership_state = new.membership_state;
    accepted = new.accepted;
  }

-- these entries took the place of the log from the index of the first one on, and their memberships
-- are effective:
-- - the tests that they passed, and the log afterwards;
-- - below the first entry the log is as it was, and it has each entry;
-- - what that makes of the memberships and of what is accepted; nothing else changed.
pub record Replaces {K N I L C D : Type 0} (ord : OrdMembers C) (id_eq : K → K → Bool)
    (same : N → N → Bool) (es : List (EntryOf C K N D)) (old new : RaftStateIn K N I L C) : Type 0 where
  pub keeps : IsTrue (keeps_committed ord.cmp es old)
  pub order : IsTrue (are_in_order ord.cmp (last_before es old) es)
  pub members : IsTrue (has_memberships_in_order ord.cmp (effective_before es old) es)
  pub log : IsTrue (same_log ord.eq (full_log new.log_ids) (log_with_new (full_log old.log_ids) es))
  pub kept : KeepsBelow ord.eq (replaced_since (full_log old.log_ids) es) (full_log old.log_ids)
      (full_log new.log_ids)
  pub nothing_new : es ≡ [] → new.log_ids ≡ old.log_ids
  pub own : HasIds ord.eq (entry_ids es) (full_log new.log_ids)
  pub ends : last_id (full_log new.log_ids)
      ≡ option_or (last_id (entry_ids es)) (last_id (full_log old.log_ids))
  pub memberships : AppendsMemberships id_eq same (λ e. e.log_id) (λ e. payload_membership e.payload) es
      (memberships_before es old) new.membership_state
  pub effective : log_id_of new.membership_state.effective ≡ effective_with (effective_before es old) es
  pub accepted : new.accepted ≡ accepted_before ord.cmp es old
  pub rest : new ≡ record old {
    log_ids = new.log_ids;
    membership_state = new.membership_state;
    accepted = new.accepted;
  }

-- these entries are appended to a log that they may be appended to, and their memberships are
-- effective:
-- - the log ids of the log afterwards, of which the last one is that of the last entry;
-- - what that makes of the memberships; nothing else changed.
pub record Extends {K N I L C D : Type 0} (eq : C → C → Bool) (id_eq : K → K → Bool)
    (same : N → N → Bool) (es : List (EntryOf C K N D)) (old new : RaftStateIn K N I L C) : Type 0 where
  pub log : IsTrue (same_log eq (full_log new.log_ids) (full_log old.log_ids ++ entry_ids es))
  pub last : last_id (full_log new.log_ids)
      ≡ option_or (last_id (entry_ids es)) (last_id (full_log old.log_ids))
  pub kept : KeepsIds eq (full_log old.log_ids) (full_log new.log_ids)
  pub own : HasIds eq (entry_ids es) (full_log new.log_ids)
  pub memberships : AppendsMemberships id_eq same (λ e. e.log_id) (λ e. payload_membership e.payload) es
      old.membership_state new.membership_state
  pub effective : log_id_of new.membership_state.effective
      ≡ effective_with (log_id_of old.membership_state.effective) es
  pub rest : new ≡ record old { log_ids = new.log_ids; membership_state = new.membership_state }

-- entries, of which there are some, were refused, or an allocation failed, before they were in the log:
-- all is as it was, or cut off at the first one
pub record Stops {K N I L C D : Type 0} (ord : OrdMembers C) (es : List (EntryOf C K N D))
    (refusal : AppendError) (old new : RaftStateIn K N I L C) : Type 0 where
  pub refused : RefusedUnless (new_tests ord.cmp es old) refusal
  pub some : es ≡ [] → ⊥
  pub left : IsLogKept old new ⊎ (IsTrue (keeps_committed ord.cmp es old) × IsCutBefore ord.cmp es old new)
  pub kept : KeepsBelow ord.eq (replaced_since (full_log old.log_ids) es) (full_log old.log_ids)
      (full_log new.log_ids)
  pub rest : new ≡ record old {
    log_ids = new.log_ids;
    membership_state = new.membership_state;
    accepted = new.accepted;
  }

-- the log is truncated at an index, unless it ends before it; the answer is that index, if it was
pub record Truncates {K N I L C : Type 0} (since : ℕ) (answer : Option ℕ) (old new : RaftStateIn K N I L C)
    : Type 0 where
  pub at : answer ≡ truncated_at since old
  pub kept : ends_before since old ≡ true → new ≡ old
