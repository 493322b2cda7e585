-- When the operations of a list may be called.
use Rattle.std.specs.Prelude.{nat_lt, nat_le, Bool, true, ◌&&◌, ◌||◌, List, [], ◌∷◌, Option, Some, None}
use Rattle.std.specs.Option.{option_eq}
use Rattle.std.specs.Ordering.{is_le}
use Rattle.std.specs.declared.cmp.Ordering.{Ordering}
use Rattle.raft_base.specs.declared.log_id.LogIdOf.{LogIdOf}
use Rattle.raft_state.specs.log_id_list.LogReads.{first_id, last_id}

-- a log id may come after this last one: it has a greater index, and no lesser leader
abbrev pub follows : {C : Type 0} → (C → C → Ordering) → Option (LogIdOf C) → LogIdOf C → Bool
follows cmp None id = true
follows cmp (Some last) id = nat_lt last.index id.index && is_le (cmp last.leader_id id.leader_id)

-- each of these log ids may come after the one before it, and the first one after this last one
abbrev pub all_follow : {C : Type 0} → (C → C → Ordering) → Option (LogIdOf C) → List (LogIdOf C)
    → Bool
all_follow cmp last [] = true
all_follow cmp last (id ∷ ids) = follows cmp last id && all_follow cmp (Some id) ids

-- the first and the last of these log ids share a leader, or there are none
abbrev pub ends_share_leader : {C : Type 0} → (C → C → Bool) → List (LogIdOf C) → Bool
ends_share_leader eq ids =
    option_eq (λ a b. eq a.leader_id b.leader_id) (first_id ids) (last_id ids)

-- log ids of one leader may come one after the other, and the first one after this last one
abbrev pub all_follow_of_one_leader : {C : Type 0} → (C → C → Ordering) → (C → C → Bool)
    → Option (LogIdOf C) → List (LogIdOf C) → Bool
all_follow_of_one_leader cmp eq last ids = all_follow cmp last ids && ends_share_leader eq ids

-- a log with this last log id may be purged up to the other one, which has no lesser leader if it
-- is past the last index
abbrev pub can_purge : {C : Type 0} → (C → C → Ordering) → Option (LogIdOf C) → LogIdOf C
    → Bool
can_purge cmp None upto = true
can_purge cmp (Some last) upto =
    nat_le upto.index last.index || is_le (cmp last.leader_id upto.leader_id)
