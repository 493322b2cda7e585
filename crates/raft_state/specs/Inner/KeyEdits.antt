-- What the operations of a list do to its keys.
use Rattle.std.specs.Prelude.{ℕ, zero, suc, nat_lt, nat_le, Bool, List, [], ◌∷◌, if◌then◌else◌}
use Rattle.raft_base.specs.declared.log_id.LogIdOf.{LogIdOf}
use Rattle.raft_state.specs.log_id_list.FullLog.{end_index}

-- the keys after k when a log id is appended: the last one is replaced if the last two share a
-- leader
abbrev pub rest_after_append : {C : Type 0} → (C → C → Bool) → LogIdOf C → List (LogIdOf C)
    → LogIdOf C
    → List (LogIdOf C)
rest_after_append eq k [] id = id ∷ []
rest_after_append eq k (l ∷ []) id = if eq k.leader_id l.leader_id then id ∷ [] else l ∷ id ∷ []
rest_after_append eq k (l ∷ m ∷ ks) id = l ∷ rest_after_append eq l (m ∷ ks) id

-- the keys after a log id is appended
abbrev pub keys_after_append : {C : Type 0} → (C → C → Bool) → List (LogIdOf C) → LogIdOf C
    → List (LogIdOf C)
keys_after_append eq [] id = id ∷ []
keys_after_append eq (k ∷ ks) id = k ∷ rest_after_append eq k ks id

-- the keys after these log ids are appended, one after the other
abbrev pub keys_after_extend : {C : Type 0} → (C → C → Bool) → List (LogIdOf C) → List (LogIdOf C)
    → List (LogIdOf C)
keys_after_extend eq ks [] = ks
keys_after_extend eq ks (id ∷ ids) = keys_after_extend eq (keys_after_append eq ks id) ids

-- a last key at index j, unless key k is at that index
abbrev pub end_at : {C : Type 0} → LogIdOf C → ℕ → List (LogIdOf C)
end_at k j = if nat_lt k.index j then record { leader_id = k.leader_id; index = j } ∷ [] else []

-- of the keys after k, those for the log ids up to index j
abbrev pub rest_up_to : {C : Type 0} → LogIdOf C → List (LogIdOf C) → ℕ → List (LogIdOf C)
rest_up_to k [] j = []
rest_up_to k (l ∷ ks) j = if nat_le l.index j then l ∷ rest_up_to l ks j else end_at k j

-- the keys for the log ids up to index j
abbrev pub keys_up_to : {C : Type 0} → List (LogIdOf C) → ℕ → List (LogIdOf C)
keys_up_to [] j = []
keys_up_to (k ∷ ks) j = if nat_le k.index j then k ∷ rest_up_to k ks j else []

-- the keys for the log ids below index a
abbrev pub keys_below : {C : Type 0} → List (LogIdOf C) → ℕ → List (LogIdOf C)
keys_below ks zero = []
keys_below ks (suc j) = keys_up_to ks j

-- the keys for the log ids from index a on, if key k is not past it
abbrev pub rest_from : {C : Type 0} → LogIdOf C → List (LogIdOf C) → ℕ → List (LogIdOf C)
rest_from k [] a = record { leader_id = k.leader_id; index = a } ∷ []
rest_from k (l ∷ ks) a =
    if nat_le l.index a then rest_from l ks a
    else record { leader_id = k.leader_id; index = a } ∷ l ∷ ks

-- the keys for the log ids from index a on
abbrev pub keys_from : {C : Type 0} → List (LogIdOf C) → ℕ → List (LogIdOf C)
keys_from [] a = []
keys_from (k ∷ ks) a = if nat_le k.index a then rest_from k ks a else k ∷ ks

-- the keys after a purge
abbrev pub keys_after_purge : {C : Type 0} → List (LogIdOf C) → LogIdOf C → List (LogIdOf C)
keys_after_purge ks upto =
    if nat_le (end_index ks) upto.index then upto ∷ [] else keys_from ks upto.index
