-- When log entries may be appended with the memberships that they store, and what they leave.
use Rattle.std.specs.Prelude.{◌≡◌, Bool, true, ◌&&◌, List, [], ◌∷◌, Option, Some, None, IsTrue, map, is_some, nat_eq, if◌then◌else◌}
use Rattle.std.specs.declared.cmp.Ordering.{Ordering}
use Rattle.raft_base.specs.LogId.{id_lt, index_of, next_index}
use Rattle.raft_base.specs.LogIndex.{index_le, index_lt}
use Rattle.raft_base.specs.declared.log_id.LogIdOf.{LogIdOf}
use Rattle.raft_members.specs.membership.Members.{MemberList, same_members}
use Rattle.raft_members.specs.membership.Stored.{log_id_of, membership_of}
use Rattle.raft_members.specs.declared.membership.stored.StoredMembershipOf.{StoredMembershipOf}
use Rattle.raft_state.specs.log_id_list.FullLog.{full_log}
use Rattle.raft_state.specs.log_id_list.LogConditions.{all_follow}
use Rattle.raft_state.specs.log_id_list.LogReads.{first_id, last_id}
use Rattle.raft_state.specs.membership_state.MembershipMoves.{after_append}
use Rattle.raft_state.specs.membership_state.Memberships.{Memberships}
use Rattle.raft_state.specs.declared.raft_state.RaftStateIn.{RaftStateIn}

-- each entry with a membership has a greater log id and a greater index than the one before it, and
-- the first one than the log id of the effective membership
abbrev pub memberships_follow : {C E : Type 0} → (C → C → Ordering) → (E → LogIdOf C) → (E → Bool)
    → Option (LogIdOf C) → List E → Bool
memberships_follow cmp id_of stores last [] = true
memberships_follow cmp id_of stores last (e ∷ es) =
    if stores e
    then id_lt cmp last (Some (id_of e)) && index_lt (index_of last) (Some (id_of e).index)
    && memberships_follow cmp id_of stores (Some (id_of e)) es
    else memberships_follow cmp id_of stores last es

-- a log begins at index 0 if it was empty before
abbrev pub begins_at_zero : {C : Type 0} → List (LogIdOf C) → List (LogIdOf C) → Bool
begins_at_zero [] ids = index_le (index_of (first_id ids)) (Some 0)
begins_at_zero (id ∷ log) ids = true

-- log ids have consecutive indexes, from the index after a log id on, or from 0 if it is absent
abbrev pub are_consecutive : {C : Type 0} → Option (LogIdOf C) → List (LogIdOf C) → Bool
are_consecutive last [] = true
are_consecutive last (id ∷ ids) =
    nat_eq id.index (next_index last) && are_consecutive (Some id) ids

-- the log id of the last of these entries that stores a membership, or another one if none does
abbrev pub last_stored : {C E : Type 0} → (E → LogIdOf C) → (E → Bool) → Option (LogIdOf C)
    → List E → Option (LogIdOf C)
last_stored id_of stores last [] = last
last_stored id_of stores last (e ∷ es) =
    last_stored id_of stores (if stores e then Some (id_of e) else last) es

-- entries may be appended: their log ids may come after one another and after the log, no index is
-- missing between them and the log's end, and their memberships follow the effective one
abbrev pub may_append_entries : {K N I L C E : Type 0} → (C → C → Ordering) → (E → LogIdOf C)
    → (E → Option (MemberList K N)) → List E → RaftStateIn K N I L C → Bool
may_append_entries cmp id_of membership es s =
    all_follow cmp (last_id (full_log s.log_ids)) (map id_of es)
    && are_consecutive (last_id (full_log s.log_ids)) (map id_of es)
    && memberships_follow cmp id_of (λ e. is_some (membership e))
    (log_id_of s.membership_state.effective) es

-- a stored membership is a copy of the one of an entry, with its configs, under its log id
abbrev pub IsStoredBy : {C K N : Type 0} → (K → K → Bool) → (N → N → Bool) → LogIdOf C
    → MemberList K N → StoredMembershipOf C K N → Type 0
IsStoredBy eq same id w stored = (log_id_of stored ≡ Some id)
    × IsTrue (same_members eq same w (membership_of stored))
    × ((membership_of stored).configs ≡ w.configs)

-- if an entry stores a membership, that one was made effective, and then what follows holds
abbrev AppendsOne : {K N C : Type 0} → (K → K → Bool) → (N → N → Bool)
    → LogIdOf C → Option (MemberList K N) → (Memberships C K N → Type 0) → Memberships C K N
    → Type 0
AppendsOne eq same id None after m = after m
AppendsOne {K} {N} {C} eq same id (Some w) after m =
    (stored : StoredMembershipOf C K N) × IsStoredBy eq same id w stored
    × after (after_append stored m)

-- each membership of these entries was made effective, one after the other
abbrev pub AppendsMemberships : {K N C E : Type 0} → (K → K → Bool) → (N → N → Bool)
    → (E → LogIdOf C) → (E → Option (MemberList K N)) → List E → Memberships C K N
    → Memberships C K N → Type 0
AppendsMemberships eq same id_of membership [] old new = new ≡ old
AppendsMemberships eq same id_of membership (e ∷ es) old new =
    AppendsOne eq same (id_of e) (membership e)
    (λ m. AppendsMemberships eq same id_of membership es m new) old
