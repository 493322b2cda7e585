-- The keys of a log: the first log id, the first one of each later leader, and the last one.
use Rattle.std.specs.Prelude.{nat_lt, Bool, true, false, ◌&&◌, List, [], ◌∷◌, if◌then◌else◌}
use Rattle.std.specs.Ordering.{is_le, is_lt}
use Rattle.std.specs.declared.cmp.Ordering.{Ordering}
use Rattle.raft_base.specs.declared.log_id.LogIdOf.{LogIdOf}

-- a key may come directly after another one: it has a greater index and a greater leader, or at the
-- end of the list an equal leader
abbrev pub key_follows : {C : Type 0} → (C → C → Ordering) → LogIdOf C → LogIdOf C → Bool → Bool
key_follows cmp k l at_end = nat_lt k.index l.index
    && (if at_end then is_le (cmp k.leader_id l.leader_id) else is_lt (cmp k.leader_id l.leader_id))

-- there are no further keys
abbrev pub is_none_left : {C : Type 0} → List (LogIdOf C) → Bool
is_none_left [] = true
is_none_left (k ∷ ks) = false

-- these may be the keys of a log: indexes and leaders rise, and
-- only the last two may share a leader
abbrev pub may_be_keys : {C : Type 0} → (C → C → Ordering) → List (LogIdOf C) → Bool
may_be_keys cmp [] = true
may_be_keys cmp (k ∷ []) = true
may_be_keys cmp (k ∷ l ∷ ks) = key_follows cmp k l (is_none_left ks) && may_be_keys cmp (l ∷ ks)

-- the last two keys if they share a leader, and otherwise the last one; all if there are fewer than
-- two
abbrev pub by_last_leader : {C : Type 0} → (C → C → Bool) → List (LogIdOf C) → List (LogIdOf C)
by_last_leader eq [] = []
by_last_leader eq (k ∷ []) = k ∷ []
by_last_leader eq (k ∷ l ∷ []) = if eq k.leader_id l.leader_id then k ∷ l ∷ [] else l ∷ []
by_last_leader eq (k ∷ l ∷ m ∷ ks) = by_last_leader eq (l ∷ m ∷ ks)
