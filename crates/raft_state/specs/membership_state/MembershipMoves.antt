-- What a commit, an append, a truncation and a snapshot make of the two memberships. Log ids are
-- ordered by leader, then by index, and an absent one is below each present one.
use Rattle.std.specs.Prelude.{ℕ, Bool, true, not, ◌&&◌, ◌||◌, Option, Some, None, if◌then◌else◌}
use Rattle.std.specs.declared.cmp.Ordering.{Ordering}
use Rattle.raft_base.specs.declared.log_id.LogIdOf.{LogIdOf}
use Rattle.raft_base.specs.LogId.{id_le, id_lt, index_of, same_ids}
use Rattle.raft_base.specs.LogIndex.{index_le, index_lt}
use Rattle.raft_members.specs.membership.Members.{same_members}
use Rattle.raft_members.specs.membership.Stored.{log_id_of}
use Rattle.raft_members.specs.declared.membership.stored.StoredMembershipOf.{StoredMembershipOf}
use Rattle.raft_state.specs.membership_state.Memberships.{Memberships, in_effect, index_at}

-- a log that is committed up to a log id contains the effective membership
abbrev pub commits : {C K N : Type 0} → (C → C → Ordering) → Option (LogIdOf C) → Memberships C K N
    → Bool
commits cmp upto m = id_le cmp (log_id_of m.effective) upto

-- the effective membership is committed if the log is committed up to it
abbrev pub after_commit : {C K N : Type 0} → (C → C → Ordering) → Option (LogIdOf C)
    → Memberships C K N → Memberships C K N
after_commit cmp upto m =
    if commits cmp upto m then record { committed = m.effective; effective = m.effective } else m

-- a log id that commits the effective membership has no lesser index
abbrev pub may_commit : {C K N : Type 0} → (C → C → Ordering) → Option (LogIdOf C)
    → Memberships C K N → Bool
may_commit cmp upto m =
    if commits cmp upto m then index_le (index_at m.effective) (index_of upto) else true

-- a new membership is effective, and the one before it is committed, so at most one is not
abbrev pub after_append : {C K N : Type 0} → StoredMembershipOf C K N → Memberships C K N
    → Memberships C K N
after_append new m = record { committed = m.effective; effective = new }

-- a new membership has a greater log id and a greater index than the effective one
abbrev pub may_append : {C K N : Type 0} → (C → C → Ordering) → StoredMembershipOf C K N
    → Memberships C K N → Bool
may_append cmp new m =
    id_lt cmp (log_id_of m.effective) (log_id_of new)
    && index_lt (index_at m.effective) (index_at new)

-- the effective membership is in the log from index `since` on
abbrev pub is_cut : {C K N : Type 0} → ℕ → Memberships C K N → Bool
is_cut since m = index_le (Some since) (index_at m.effective)

-- if the effective membership is truncated with the log, the committed one is effective again
abbrev pub after_truncate : {C K N : Type 0} → ℕ → Memberships C K N → Memberships C K N
after_truncate since m =
    if is_cut since m then record { committed = m.committed; effective = m.committed } else m

-- a snapshot up to index `upto` contains the effective membership
abbrev pub is_covered : {C K N : Type 0} → ℕ → Memberships C K N → Bool
is_covered upto m = index_le (index_at m.effective) (Some upto)

-- a committed membership comes with a snapshot up to index `upto`: if the snapshot contains the
-- effective one, only the new one is left; otherwise the new one is effective if its index is not
-- lesser, and it is the committed one if its log id is greater
abbrev pub after_update_committed : {C K N : Type 0} → (C → C → Ordering) → StoredMembershipOf C K N
    → ℕ → Memberships C K N → Memberships C K N
after_update_committed cmp new upto m =
    if is_covered upto m then record { committed = new; effective = new }
    else record {
      committed = if id_lt cmp (log_id_of m.committed) (log_id_of new) then new else m.committed;
      effective = if index_le (index_at m.effective) (index_at new) then new else m.effective;
    }

-- the new membership replaces both
abbrev pub replaces_both : {C K N : Type 0} → (C → C → Ordering) → StoredMembershipOf C K N → ℕ
    → Memberships C K N → Bool
replaces_both cmp new upto m =
    is_covered upto m
    || (index_le (index_at m.effective) (index_at new)
    && id_lt cmp (log_id_of m.committed) (log_id_of new))

-- the effective membership has other configs or nodes than before; its log id does not count
abbrev pub effect_changes : {C K N : Type 0} → (K → K → Bool) → (N → N → Bool)
    → Memberships C K N → Memberships C K N → Bool
effect_changes eq same old new = not (same_members eq same (in_effect new) (in_effect old))

-- the effective membership is the committed one: their log ids are equal
abbrev pub is_effective_committed : {C K N : Type 0} → (C → C → Bool) → Memberships C K N → Bool
is_effective_committed leader m = same_ids leader (log_id_of m.effective) (log_id_of m.committed)

-- the effective membership if a call returns it, and otherwise nothing
abbrev pub effective_where : {C K N : Type 0} → Bool → Memberships C K N
    → Option (StoredMembershipOf C K N)
effective_where answers m = if answers then Some m.effective else None
