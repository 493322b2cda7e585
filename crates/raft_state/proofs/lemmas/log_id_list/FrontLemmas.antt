-- The first and the last log id of what stays of a log below an index, or from one on.
use Rattle.std.proofs.Common.{◌≡◌, ℕ, zero, suc, ◌+◌, ◌-◌, ◌<◌, ◌≤◌, ◌==◌, true, false, List, [], ◌∷◌, Some, None, length, nat_lt, nat_le, refl, sym, ap, subst, arith, inl, inr}
use Rattle.std.proofs.lemmas.Bool.{cases_lt}
use Rattle.std.proofs.lemmas.Bool.Decides.{nat_tests}
use Rattle.std.specs.declared.cmp.Ordering.{Ordering}
use Rattle.raft_base.specs.LogId.{index_of}
use Rattle.raft_base.specs.LogIndex.{index_lt}
use Rattle.raft_base.specs.declared.log_id.LogIdOf.{LogIdOf}
use Rattle.raft_state.specs.log_id_list.FullLog.{first_index, full_log}
use Rattle.raft_state.specs.log_id_list.LogEdits.{front, rest}
use Rattle.raft_state.specs.log_id_list.LogReads.{first_id, id_at, last_id}
use Rattle.raft_state.proofs.lemmas.log_id_list.CutLemmas.{first_full}
use Rattle.raft_state.proofs.lemmas.log_id_list.KeyListLemmas.{IsKeyList}
use Rattle.raft_state.proofs.lemmas.log_id_list.OrderLemmas.{From, from_full}

-- a full log has consecutive indexes from its first one on
pub from_first : {C : Type 0} (cmp : C → C → Ordering) (ks : List (LogIdOf C)) → IsKeyList cmp ks
    → From (first_index (full_log ks)) (full_log ks)
from_first cmp [] s = tt
from_first cmp (k ∷ ks) s = rw (first_full cmp (k ∷ ks) s) (from_full cmp k ks s)

-- below the first index there is nothing
pub front_none : {C : Type 0} (b a : ℕ) (xs : List (LogIdOf C)) → From b xs → a ≤ b → front xs a ≡ []
front_none b a [] h le = refl
front_none b a (x ∷ xs) h le =
    let h0 = h.0 in let t : nat_lt x.index a ≡ false = grind (arith, nat_tests) in
    rw t (front_none (b + 1) a xs h.1 (omega arith))

none_at : {C : Type 0} (b j : ℕ) (xs : List (LogIdOf C)) → From b xs → j < b → id_at xs j ≡ None
none_at b j [] h lt = refl
none_at b j (x ∷ xs) h lt =
    let h0 = h.0 in let t : (x.index == j) ≡ false = grind (arith, nat_tests) in
    rw t (none_at (b + 1) j xs h.1 (omega arith))

-- past the last index nothing is truncated
pub front_all : {C : Type 0} (b a : ℕ) (xs : List (LogIdOf C)) → From b xs → b + length xs ≤ a → front xs a ≡ xs
front_all b a [] h le = refl
front_all b a (x ∷ xs) h le =
    let h0 = h.0 in let n : length (x ∷ xs) ≡ suc (length xs) = refl in
    let t : nat_lt x.index a ≡ true = grind (arith, nat_tests) in
    rw t (ap (λ ys. x ∷ ys) (front_all (b + 1) a xs h.1 (omega arith)))

-- the last one that stays is the one before the index
front_one : {C : Type 0} (j : ℕ) (x : LogIdOf C) (ys : List (LogIdOf C)) → x.index ≡ j → front ys (suc j) ≡ []
    → last_id (front (x ∷ ys) (suc j)) ≡ id_at (x ∷ ys) j
front_one j x ys e none =
    let t : nat_lt x.index (suc j) ≡ true = grind (arith, nat_tests) in
    let u : (x.index == j) ≡ true = grind (arith, nat_tests) in
    rw (t, u, none) refl

pub front_last : {C : Type 0} (b j : ℕ) (xs : List (LogIdOf C)) → From b xs → j < b + length xs → last_id (front xs (suc j)) ≡ id_at xs j
front_last b j [] h lt = refl
front_last b j (x ∷ []) h lt =
    let h0 = h.0 in let n : length (x ∷ []) ≡ 1 = refl in
    elim (cases_lt j b) [
      | inl below ↦ rw (front_none b (suc j) (x ∷ []) h (omega arith), none_at b j (x ∷ []) h below) refl
      | inr past ↦ front_one j x [] (omega arith) refl
    ]
front_last b j (x ∷ y ∷ ys) h lt =
    let h0 = h.0 in let h1 = h.1.0 in let n : length (x ∷ y ∷ ys) ≡ suc (length (y ∷ ys)) = refl in
    elim (cases_lt j b) [
      | inl below ↦ rw (front_none b (suc j) (x ∷ y ∷ ys) h (omega arith), none_at b j (x ∷ y ∷ ys) h below) refl
      | inr past ↦ elim (cases_lt b j) [
        | inl after ↦
            (let t : nat_lt x.index (suc j) ≡ true = grind (arith, nat_tests) in
            let u : nat_lt y.index (suc j) ≡ true = grind (arith, nat_tests) in
            let v : (x.index == j) ≡ false = grind (arith, nat_tests) in
            let more = front_last (b + 1) j (y ∷ ys) h.1 (omega arith) in
            rw (t, u, v) (rw u at more))
        | inr here ↦ front_one j x (y ∷ ys) (omega arith) (front_none (b + 1) (suc j) (y ∷ ys) h.1 (omega arith))
      ]
    ]

-- the last log id, with its index
pub last_at : {C : Type 0} (b : ℕ) (x : LogIdOf C) (xs : List (LogIdOf C)) → From b (x ∷ xs)
    → (y : LogIdOf C) × (last_id (x ∷ xs) ≡ Some y) × (y.index + 1 ≡ b + length (x ∷ xs))
last_at b x [] h = let h0 = h.0 in let n : length (x ∷ []) ≡ 1 = refl in (x, refl, omega arith)
last_at b x (y ∷ ys) h =
    let z = last_at (b + 1) y ys h.1 in let z2 = z.2 in
    let n : length (x ∷ y ∷ ys) ≡ suc (length (y ∷ ys)) = refl in
    (z.0, z.1, omega arith)

-- what stays of a log that ends below the index, at an index within it, and below index 0
pub all_stay : {C : Type 0} (b a : ℕ) (xs : List (LogIdOf C)) → From b xs → index_lt (index_of (last_id xs)) (Some a) ≡ true
    → last_id xs ≡ last_id (front xs a)
all_stay b a [] h e = refl
all_stay b a (x ∷ xs) h e =
    let y = last_at b x xs h in let y2 = y.2 in let f = rw y.1 at e in
    let lt : y.0.index < a = grind (arith, nat_tests) in
    ap last_id (sym (front_all b a (x ∷ xs) h (omega arith)))

pub some_stay : {C : Type 0} (b a : ℕ) (xs : List (LogIdOf C)) → From b xs → index_lt (index_of (last_id xs)) (Some a) ≡ false → (a ≡ 0 → ⊥)
    → id_at xs (a - 1) ≡ last_id (front xs a)
some_stay b zero xs h e n = absurd (n refl)
some_stay b (suc j) [] h e n = cc
some_stay b (suc j) (x ∷ xs) h e n =
    let y = last_at b x xs h in let y2 = y.2 in let f = rw y.1 at e in
    let le : suc j ≤ y.0.index = grind (arith, nat_tests) in
    let d : j ≡ suc j - 1 = omega arith in
    subst (λ (i : ℕ). id_at (x ∷ xs) i ≡ last_id (front (x ∷ xs) (suc j))) d (sym (front_last b j (x ∷ xs) h (omega arith)))

pub none_stay : {C : Type 0} (a : ℕ) (xs : List (LogIdOf C)) → a ≡ 0 → None ≡ last_id (front xs a)
none_stay a [] e = refl
none_stay a (x ∷ xs) e = let t : nat_lt x.index a ≡ false = grind (arith, nat_tests) in rw t (none_stay a xs e)

-- from the first index on all stays
rest_all : {C : Type 0} (b j : ℕ) (xs : List (LogIdOf C)) → From b xs → j ≤ b → rest xs j ≡ xs
rest_all b j [] h le = refl
rest_all b j (x ∷ xs) h le =
    let h0 = h.0 in let t : nat_le j x.index ≡ true = grind (arith, nat_tests) in
    rw t (ap (λ ys. x ∷ ys) (rest_all (b + 1) j xs h.1 (omega arith)))

-- from an index within a log on, the log id there is the first one, and the last one stays
pub rest_first : {C : Type 0} (b j : ℕ) (xs : List (LogIdOf C)) → From b xs → b ≤ j → first_id (rest xs j) ≡ id_at xs j
rest_first b j [] h le = refl
rest_first b j (x ∷ xs) h le = let h0 = h.0 in elim (cases_lt b j) [
  | inl after ↦
      (let t : nat_le j x.index ≡ false = grind (arith, nat_tests) in
      let v : (x.index == j) ≡ false = grind (arith, nat_tests) in
      rw (t, v) (rest_first (b + 1) j xs h.1 (omega arith)))
  | inr here ↦
      (let t : nat_le j x.index ≡ true = grind (arith, nat_tests) in
      let v : (x.index == j) ≡ true = grind (arith, nat_tests) in
      rw (t, v) refl)
]

pub rest_last : {C : Type 0} (b j : ℕ) (xs : List (LogIdOf C)) → From b xs → j < b + length xs → last_id (rest xs j) ≡ last_id xs
rest_last b j [] h lt = refl
rest_last b j (x ∷ []) h lt = let n : length (x ∷ []) ≡ 1 = refl in ap last_id (rest_all b j (x ∷ []) h (omega arith))
rest_last b j (x ∷ y ∷ ys) h lt =
    let h0 = h.0 in let n : length (x ∷ y ∷ ys) ≡ suc (length (y ∷ ys)) = refl in
    elim (cases_lt b j) [
      | inl after ↦ (let t : nat_le j x.index ≡ false = grind (arith, nat_tests) in rw t (rest_last (b + 1) j (y ∷ ys) h.1 (omega arith)))
      | inr here ↦ ap last_id (rest_all b j (x ∷ y ∷ ys) h here)
    ]
