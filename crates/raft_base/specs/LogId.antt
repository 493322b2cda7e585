-- How log ids compare, and the indexes of log ids that may be absent.
use Rattle.std.specs.Prelude.{ℕ, Bool, ◌&&◌, nat_eq, Option}
use Rattle.std.specs.declared.cmp.Ordering.{Ordering}
use Rattle.std.specs.Ordering.{is_le, is_lt, ordering_then, nat_cmp}
use Rattle.std.specs.Option.{option_cmp, option_eq, option_map}
use Rattle.raft_base.specs.LogIndex.{next_index_of}
use Rattle.raft_base.specs.declared.log_id.LogIdOf.{LogIdOf}

-- by the order of leaders, and under one leader by index
abbrev pub log_id_cmp : {C : Type 0} → (C → C → Ordering) → LogIdOf C → LogIdOf C → Ordering
log_id_cmp cmp a b = ordering_then (cmp a.leader_id b.leader_id) (nat_cmp a.index b.index)

-- one log id is at most another; an absent one is below all others
abbrev pub id_le : {C : Type 0} → (C → C → Ordering) → Option (LogIdOf C) → Option (LogIdOf C)
    → Bool
id_le cmp a b = is_le (option_cmp (log_id_cmp cmp) a b)

-- one log id is below another; an absent one is below all others
abbrev pub id_lt : {C : Type 0} → (C → C → Ordering) → Option (LogIdOf C) → Option (LogIdOf C)
    → Bool
id_lt cmp a b = is_lt (option_cmp (log_id_cmp cmp) a b)

-- equal leaders and the same index
abbrev pub same_id : {C : Type 0} → (C → C → Bool) → LogIdOf C → LogIdOf C → Bool
same_id eq a b = eq a.leader_id b.leader_id && nat_eq a.index b.index

-- equal log ids, or none
abbrev pub same_ids : {C : Type 0} → (C → C → Bool) → Option (LogIdOf C) → Option (LogIdOf C) → Bool
same_ids eq a b = option_eq (same_id eq) a b

-- the index of a log id that may be absent
abbrev pub index_of : {C : Type 0} → Option (LogIdOf C) → Option ℕ
index_of id = option_map (λ a. a.index) id

-- the index after a log id, and 0 after none
abbrev pub next_index : {C : Type 0} → Option (LogIdOf C) → ℕ
next_index id = next_index_of (index_of id)
