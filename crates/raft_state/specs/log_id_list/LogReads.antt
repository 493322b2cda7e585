-- Look-ups in a full log.
use Rattle.std.specs.Prelude.{ℕ, ◌+◌, ◌==◌, Bool, false, List, [], ◌∷◌, Option, Some, None, find, if◌then◌else◌}
use Rattle.raft_base.specs.declared.log_id.LogIdOf.{LogIdOf}

-- the log id with index i, if there is one
abbrev pub id_at : {C : Type 0} → List (LogIdOf C) → ℕ → Option (LogIdOf C)
id_at log i = find (λ id. id.index == i) log

-- the first of these log ids
abbrev pub first_id : {C : Type 0} → List (LogIdOf C) → Option (LogIdOf C)
first_id [] = None
first_id (id ∷ ids) = Some id

-- the last of these log ids
abbrev pub last_id : {C : Type 0} → List (LogIdOf C) → Option (LogIdOf C)
last_id [] = None
last_id (k ∷ []) = Some k
last_id (k ∷ l ∷ ks) = last_id (l ∷ ks)

-- the last two of these log ids share a leader
abbrev pub last_two_share_leader : {C : Type 0} → (C → C → Bool) → List (LogIdOf C) → Bool
last_two_share_leader eq [] = false
last_two_share_leader eq (k ∷ []) = false
last_two_share_leader eq (k ∷ l ∷ []) = eq k.leader_id l.leader_id
last_two_share_leader eq (k ∷ l ∷ m ∷ ks) = last_two_share_leader eq (l ∷ m ∷ ks)

-- how often the leader changes along these log ids, which come after one of leader c
abbrev pub leader_changes : {C : Type 0} → (C → C → Bool) → C → List (LogIdOf C) → ℕ
leader_changes eq c [] = 0
leader_changes eq c (id ∷ ids) =
    (if eq c id.leader_id then 0 else 1) + leader_changes eq id.leader_id ids

-- the number of leaders of a log, one after the other
abbrev pub leader_count : {C : Type 0} → (C → C → Bool) → List (LogIdOf C) → ℕ
leader_count eq [] = 0
leader_count eq (id ∷ ids) = 1 + leader_changes eq id.leader_id ids
