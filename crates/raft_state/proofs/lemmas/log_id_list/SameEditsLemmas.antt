-- Equal logs stay equal under each edit, and have equal log ids.
use Rattle.std.proofs.Common.{◌≡◌, ℕ, ◌+◌, ◌==◌, Bool, true, false, ◌&&◌, List, [], ◌∷◌, filter, if◌then◌else◌, IsTrue, Some, nat_eq, nat_lt, nat_le, refl, ap, arith}
use Rattle.std.proofs.lemmas.Bool.Decides.{nat_tests}
use Rattle.std.specs.Cmp.{IsEquivalence}
use Rattle.std.specs.Cmp.Derive.{both_true}
use Rattle.raft_base.specs.LogId.{same_ids}
use Rattle.raft_base.specs.declared.log_id.LogIdOf.{LogIdOf}
use Rattle.raft_state.specs.log_id_list.FullLog.{end_index, first_index}
use Rattle.raft_state.specs.log_id_list.LogEdits.{log_after_append, log_after_extend, front, log_after_purge, rest}
use Rattle.raft_state.specs.log_id_list.LogReads.{first_id, id_at, last_id}
use Rattle.raft_state.specs.log_id_list.SameLog.{FindsSame, KeepsSame}
use Rattle.raft_state.proofs.lemmas.log_id_list.ExtendLemmas.{same_appended, same_extended}
use Rattle.raft_state.proofs.lemmas.log_id_list.SameLogLemmas.{SameLog, is_same, says_same}

module _ {C : Type 0} (eq : C → C → Bool) where
  same_some : (x y : LogIdOf C) → IsTrue (eq x.leader_id y.leader_id) → x.index ≡ y.index
      → IsTrue (eq x.leader_id y.leader_id && nat_eq x.index y.index)
  same_some x y e i = let t : nat_eq x.index y.index ≡ true = grind (arith, nat_tests) in
      both_true e t

  -- those whose index passes a test
  same_kept : (t : Bool) (x y : LogIdOf C) (us vs : List (LogIdOf C)) → SameLog eq (x ∷ []) (y ∷ []) → SameLog eq us vs
      → SameLog eq (if t then x ∷ us else us) (if t then y ∷ vs else vs)
  same_kept true x y us vs h g = (h.0, h.1, g)
  same_kept false x y us vs h g = g

  same_filter : (p : ℕ → Bool) (xs ys : List (LogIdOf C)) → SameLog eq xs ys
      → SameLog eq (filter (λ id. p id.index) xs) (filter (λ id. p id.index) ys)
  same_filter p [] [] h = tt
  same_filter p [] (y ∷ ys) h = absurd h
  same_filter p (x ∷ xs) [] h = absurd h
  same_filter p (x ∷ xs) (y ∷ ys) h =
      let t : p x.index ≡ p y.index = ap p h.1 in
      rw t (same_kept (p y.index) x y (filter (λ id. p id.index) xs) (filter (λ id. p id.index) ys) (h.0, h.1, tt)
      (same_filter p xs ys h.2))

  same_first_index : (xs ys : List (LogIdOf C)) → SameLog eq xs ys → first_index xs ≡ first_index ys
  same_first_index [] [] h = refl
  same_first_index [] (y ∷ ys) h = absurd h
  same_first_index (x ∷ xs) [] h = absurd h
  same_first_index (x ∷ xs) (y ∷ ys) h = h.1

  same_end_index : (xs ys : List (LogIdOf C)) → SameLog eq xs ys → end_index xs ≡ end_index ys
  same_end_index [] [] h = refl
  same_end_index [] (y ∷ ys) h = absurd h
  same_end_index (x ∷ xs) [] h = absurd h
  same_end_index (x ∷ []) (y ∷ []) h = ap (λ i. i + 1) h.1
  same_end_index (x ∷ []) (y ∷ z ∷ ys) h = absurd h.2
  same_end_index (x ∷ w ∷ xs) (y ∷ []) h = absurd h.2
  same_end_index (x ∷ w ∷ xs) (y ∷ z ∷ ys) h = same_end_index (w ∷ xs) (z ∷ ys) h.2

  same_tests : (same : (c : C) → eq c c ≡ true) (past below : Bool) (upto : LogIdOf C) (xs ys us vs : List (LogIdOf C)) → SameLog eq xs ys
      → SameLog eq us vs → SameLog eq (if past then upto ∷ [] else (if below then xs else us))
      (if past then upto ∷ [] else (if below then ys else vs))
  same_tests same true below upto xs ys us vs h g = (same upto.leader_id, refl, tt)
  same_tests same false true upto xs ys us vs h g = h
  same_tests same false false upto xs ys us vs h g = g

  same_purged : (same : (c : C) → eq c c ≡ true) (xs ys : List (LogIdOf C)) (upto : LogIdOf C) → SameLog eq xs ys
      → SameLog eq (log_after_purge xs upto) (log_after_purge ys upto)
  same_purged same xs ys upto h =
      rw (same_end_index xs ys h, same_first_index xs ys h)
      (same_tests same (nat_le (end_index ys) upto.index) (nat_lt upto.index (first_index ys)) upto xs ys (rest xs upto.index)
      (rest ys upto.index) h (same_filter (nat_le upto.index) xs ys h))

  -- what is read
  same_where : (t : Bool) (x y : LogIdOf C) (i : ℕ) (us vs : List (LogIdOf C)) → IsTrue (eq x.leader_id y.leader_id) → x.index ≡ y.index
      → IsTrue (same_ids eq (id_at us i) (id_at vs i))
      → IsTrue (same_ids eq (if t then Some x else id_at us i) (if t then Some y else id_at vs i))
  same_where true x y i us vs e j g = same_some x y e j
  same_where false x y i us vs e j g = g

  same_at : (i : ℕ) (xs ys : List (LogIdOf C)) → SameLog eq xs ys → IsTrue (same_ids eq (id_at xs i) (id_at ys i))
  same_at i [] [] h = refl
  same_at i [] (y ∷ ys) h = absurd h
  same_at i (x ∷ xs) [] h = absurd h
  same_at i (x ∷ xs) (y ∷ ys) h =
      let t : (x.index == i) ≡ (y.index == i) = ap (λ (j : ℕ). j == i) h.1 in
      rw t (same_where (y.index == i) x y i xs ys h.0 h.1 (same_at i xs ys h.2))

  same_first : (xs ys : List (LogIdOf C)) → SameLog eq xs ys → IsTrue (same_ids eq (first_id xs) (first_id ys))
  same_first [] [] h = refl
  same_first [] (y ∷ ys) h = absurd h
  same_first (x ∷ xs) [] h = absurd h
  same_first (x ∷ xs) (y ∷ ys) h = same_some x y h.0 h.1

  same_last : (xs ys : List (LogIdOf C)) → SameLog eq xs ys → IsTrue (same_ids eq (last_id xs) (last_id ys))
  same_last [] [] h = refl
  same_last [] (y ∷ ys) h = absurd h
  same_last (x ∷ xs) [] h = absurd h
  same_last (x ∷ []) (y ∷ []) h = same_some x y h.0 h.1
  same_last (x ∷ []) (y ∷ z ∷ ys) h = absurd h.2
  same_last (x ∷ w ∷ xs) (y ∷ []) h = absurd h.2
  same_last (x ∷ w ∷ xs) (y ∷ z ∷ ys) h = same_last (w ∷ xs) (z ∷ ys) h.2

  -- the laws
  pub front_keeps : (i : ℕ) → KeepsSame eq (λ log. front log i)
  front_keeps i a b h = is_same eq (front a i) (front b i) (same_filter (λ j. nat_lt j i) a b (says_same eq a b h))

  pub id_at_finds : (i : ℕ) → FindsSame eq (λ log. id_at log i)
  id_at_finds i a b h = same_at i a b (says_same eq a b h)

  pub first_id_finds : FindsSame eq first_id
  first_id_finds a b h = same_first a b (says_same eq a b h)

  pub last_id_finds : FindsSame eq last_id
  last_id_finds a b h = same_last a b (says_same eq a b h)

module _ {C : Type 0} (eq : C → C → Bool) (eqs : IsEquivalence eq) where
  pub appended_keeps : (id : LogIdOf C) → KeepsSame eq (λ log. log_after_append log id)
  appended_keeps id a b h = is_same eq (log_after_append a id) (log_after_append b id)
      (same_appended eq eqs a b id (says_same eq a b h))

  pub extended_keeps : (ids : List (LogIdOf C)) → KeepsSame eq (λ log. log_after_extend log ids)
  extended_keeps ids a b h = is_same eq (log_after_extend a ids) (log_after_extend b ids)
      (same_extended eq eqs a b ids (says_same eq a b h))

  pub purged_keeps : (upto : LogIdOf C) → KeepsSame eq (λ log. log_after_purge log upto)
  purged_keeps upto a b h = is_same eq (log_after_purge a upto) (log_after_purge b upto)
      (same_purged eq eqs.refl a b upto (says_same eq a b h))
