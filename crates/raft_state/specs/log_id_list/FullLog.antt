-- The full log that a few keys determine, and when two logs are the same.
use Rattle.std.specs.Prelude.{ℕ, zero, suc, ◌+◌, ◌-◌, nat_eq, Bool, ◌&&◌, List, [], ◌∷◌, ◌++◌}
use Rattle.std.specs.Cmp.Lexicographic.{pointwise}
use Rattle.raft_base.specs.LogId.{next_index}
use Rattle.raft_base.specs.declared.log_id.LogIdOf.{LogIdOf}
use Rattle.raft_state.specs.log_id_list.LogReads.{last_id}

-- n log ids of one leader, with consecutive indexes from index i on
abbrev pub ids_of : {C : Type 0} → C → ℕ → ℕ → List (LogIdOf C)
ids_of c i zero = []
ids_of c i (suc n) = record { leader_id = c; index = i } ∷ ids_of c (i + 1) n

-- the index of the first of these log ids, or e if there is none
abbrev pub first_index_or : {C : Type 0} → List (LogIdOf C) → ℕ → ℕ
first_index_or [] e = e
first_index_or (k ∷ ks) e = k.index

-- the index of the first of these log ids, or 0 if there is none
abbrev pub first_index : {C : Type 0} → List (LogIdOf C) → ℕ
first_index log = first_index_or log 0

-- the index after the last of these log ids, or 0 if there is none
abbrev pub end_index : {C : Type 0} → List (LogIdOf C) → ℕ
end_index log = next_index (last_id log)

-- the log ids from the first key's index up to below e: each key's leader
-- has the indexes up to the next key
abbrev pub ids_of_keys : {C : Type 0} → List (LogIdOf C) → ℕ → List (LogIdOf C)
ids_of_keys [] e = []
ids_of_keys (k ∷ ks) e =
    ids_of k.leader_id k.index (first_index_or ks e - k.index) ++ ids_of_keys ks e

-- the full log of keys: at each index from the first key's to the last key's, the
-- leader of the last key not past it
abbrev pub full_log : {C : Type 0} → List (LogIdOf C) → List (LogIdOf C)
full_log keys = ids_of_keys keys (end_index keys)

-- the same indexes, and leaders that are equal by their `==`
abbrev pub same_log : {C : Type 0} → (C → C → Bool) → List (LogIdOf C) → List (LogIdOf C) → Bool
same_log eq = pointwise (λ a b. eq a.leader_id b.leader_id && nat_eq a.index b.index)
