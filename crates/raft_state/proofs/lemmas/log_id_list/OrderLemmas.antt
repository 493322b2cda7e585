-- The indexes of a full log are consecutive, and its leaders never fall.
use Rattle.std.proofs.Common.{◌≡◌, ℕ, zero, suc, ◌+◌, ◌-◌, ◌<◌, ◌≤◌, ◌==◌, Bool, true, false, List, [], ◌∷◌, ◌++◌, Option, Some, None, if◌then◌else◌, IsTrue, refl, arith, ap, subst, length}
use Rattle.std.proofs.lemmas.Bool.Decides.{nat_tests}
use Rattle.std.specs.Prelude.{slice_get}
use Rattle.std.specs.declared.cmp.Ordering.{Ordering}
use Rattle.std.specs.Ordering.{is_le}
use Rattle.std.specs.Cmp.{IsTotalOrder}
use Rattle.raft_base.specs.declared.log_id.LogIdOf.{LogIdOf}
use Rattle.raft_state.specs.log_id_list.FullLog.{full_log, ids_of}
use Rattle.raft_state.proofs.lemmas.log_id_list.KeyListLemmas.{IsKeyList, step_keys, tail_keys}
use Rattle.raft_state.specs.log_id_list.LogOrder.{AreConsecutive, AreFound, LeadersNeverFall, LeadersNeverFallByIndex, NoneAboveLast}
use Rattle.raft_state.specs.log_id_list.LogReads.{id_at, last_id}
use Rattle.raft_state.specs.log_id_list.LogReadsLawful.{id_at-indexed}
use Rattle.raft_state.proofs.lemmas.log_id_list.IdOrderLemmas.{none_at_most, then_below}
use Rattle.raft_base.specs.LogId.{id_le}
use Rattle.raft_state.proofs.lemmas.log_id_list.CutLemmas.{first_full, one_key}
use Rattle.raft_progress.proofs.lemmas.OrderLemmas.{AtMost-refl, AtMost-trans}

-- consecutive indexes from i on
abbrev pub From : {C : Type 0} → ℕ → List (LogIdOf C) → Type 0
From i [] = Unit {0}
From i (k ∷ ks) = (k.index ≡ i) × From (i + 1) ks

from_ids : {C : Type 0} (c : C) (i n : ℕ) (ys : List (LogIdOf C)) → From (i + n) ys → From i (ids_of c i n ++ ys)
from_ids c i zero ys h = let e : i + zero ≡ i = omega arith in rw e at h
from_ids c i (suc n) ys h = let e : i + suc n ≡ (i + 1) + n = omega arith in (refl, from_ids c (i + 1) n ys (rw e at h))

pub from_full : {C : Type 0} (cmp : C → C → Ordering) (k : LogIdOf C) (ks : List (LogIdOf C)) → IsKeyList cmp (k ∷ ks)
    → From k.index (full_log (k ∷ ks))
from_full cmp k [] s = rw (one_key k) (refl, tt)
from_full cmp k (l ∷ ks) s =
    let up = (step_keys cmp k l ks s).0 in
    let e : l.index ≡ k.index + (l.index - k.index) = omega arith in
    let rest = from_full cmp l ks (tail_keys cmp k l ks s) in
    from_ids k.leader_id k.index (l.index - k.index) (full_log (l ∷ ks)) (subst (λ (i : ℕ). From i (full_log (l ∷ ks))) e rest)

from_place : {C : Type 0} (i : ℕ) (xs : List (LogIdOf C)) (n : ℕ) (id : LogIdOf C) → From i xs → slice_get xs n ≡ Some id → id.index ≡ i + n
from_place i [] n id h e = cc
from_place i (x ∷ xs) zero id h e = let h0 = h.0 in let f : x ≡ id = cc in let g : x.index ≡ id.index = ap (λ y. y.index) f in omega arith
from_place i (x ∷ xs) (suc n) id h e = let r = from_place (i + 1) xs n id h.1 e in omega arith

-- the log id at a position is the one at its index, and the one at an index is at its position
found_place : {C : Type 0} (i : ℕ) (xs : List (LogIdOf C)) (n : ℕ) (id : LogIdOf C) → From i xs → slice_get xs n ≡ Some id
    → id_at xs id.index ≡ Some id
found_place i [] n id h e = cc
found_place {C} i (x ∷ xs) zero id h e =
    let f : x ≡ id = cc in let t : (x.index == x.index) ≡ true = grind (arith, nat_tests) in
    subst (λ (y : LogIdOf C). id_at (x ∷ xs) y.index ≡ Some y) f (rw t refl)
found_place i (x ∷ xs) (suc n) id h e =
    let h0 = h.0 in let at = from_place (i + 1) xs n id h.1 e in
    let t : (x.index == id.index) ≡ false = grind (arith, nat_tests) in
    rw t (found_place (i + 1) xs n id h.1 e)

place_found : {C : Type 0} (i : ℕ) (xs : List (LogIdOf C)) (j : ℕ) (id : LogIdOf C) → From i xs → id_at xs j ≡ Some id
    → (i ≤ j) × (slice_get xs (j - i) ≡ Some id)
place_found i [] j id h e = cc
place_found i (x ∷ xs) j id h e = by (x.index == j) refl e (λ k. place_found (i + 1) xs j id h.1 k)
  where
    by : (t : Bool) → t ≡ (x.index == j) → (if t then Some x else id_at xs j) ≡ Some id
        → (id_at xs j ≡ Some id → (i + 1 ≤ j) × (slice_get xs (j - (i + 1)) ≡ Some id)) → (i ≤ j) × (slice_get (x ∷ xs) (j - i) ≡ Some id)
    by true t e later =
        let h0 = h.0 in let at : x.index ≡ j = grind (arith, nat_tests) in let z : j - i ≡ zero = omega arith in
        (omega arith, rw z e)
    by false t e later = let r = later e in let r0 = r.0 in let s : j - i ≡ suc (j - (i + 1)) = omega arith in (omega arith, rw s r.1)

-- what is there is not past the last index
pub index_within : {C : Type 0} (b j : ℕ) (xs : List (LogIdOf C)) (x : LogIdOf C) → From b xs → id_at xs j ≡ Some x
    → (b ≤ j) × (j < b + length xs)
index_within b j [] x h e = cc
index_within b j (y ∷ ys) x h e = let h0 = h.0 in let n : length (y ∷ ys) ≡ suc (length ys) = refl in
    by (y.index == j) refl e (λ k. index_within (b + 1) j ys x h.1 k)
  where
    by : (t : Bool) → t ≡ (y.index == j) → (if t then Some y else id_at ys j) ≡ Some x
        → (id_at ys j ≡ Some x → (b + 1 ≤ j) × (j < b + 1 + length ys)) → (b ≤ j) × (j < b + length (y ∷ ys))
    by true t e later = let s : y.index ≡ j = grind (arith, nat_tests) in (omega arith, omega arith)
    by false t e later = let r = later e in let r0 = r.0 in let r1 = r.1 in (omega arith, omega arith)

pub are_found : {C : Type 0} (cmp : C → C → Ordering) (ks : List (LogIdOf C)) → IsKeyList cmp ks → AreFound (full_log ks)
are_found cmp [] s n id e = cc
are_found cmp (k ∷ ks) s n id e = found_place k.index (full_log (k ∷ ks)) n id (from_full cmp k ks s) e

pub consecutive : {C : Type 0} (cmp : C → C → Ordering) (ks : List (LogIdOf C)) → IsKeyList cmp ks → AreConsecutive (full_log ks)
consecutive cmp [] s n id e = cc
consecutive cmp (k ∷ ks) s n id e = rw (first_full cmp (k ∷ ks) s) (from_place k.index (full_log (k ∷ ks)) n id (from_full cmp k ks s) e)

module _ {C : Type 0} (cmp : C → C → Ordering) (total : IsTotalOrder cmp) where
  -- leaders from c on, none below the one before it
  abbrev pub Above : C → List (LogIdOf C) → Type 0
  Above c [] = Unit {0}
  Above c (k ∷ ks) = IsTrue (is_le (cmp c k.leader_id)) × Above k.leader_id ks

  above_ids : (b c : C) (i n : ℕ) (ys : List (LogIdOf C)) → IsTrue (is_le (cmp b c)) → Above c ys
      → ((d : C) → IsTrue (is_le (cmp d c)) → Above d ys) → Above b (ids_of c i n ++ ys)
  above_ids b c i zero ys le h lower = lower b le
  above_ids b c i (suc n) ys le h lower = (le, above_ids c c (i + 1) n ys (AtMost-refl total c) h lower)

  pub above_full : (b : C) (k : LogIdOf C) (ks : List (LogIdOf C)) → IsKeyList cmp (k ∷ ks) → IsTrue (is_le (cmp b k.leader_id))
      → Above b (full_log (k ∷ ks))
  above_full b k [] s le = rw (one_key k) (le, tt)
  above_full b k (l ∷ ks) s le =
      let t = tail_keys cmp k l ks s in
      let step = (step_keys cmp k l ks s).1 in
      above_ids b k.leader_id k.index (l.index - k.index) (full_log (l ∷ ks)) le (above_full k.leader_id l ks t step)
      (λ d low. above_full d l ks t (AtMost-trans total d k.leader_id l.leader_id low step))

  above_place : (c : C) (xs : List (LogIdOf C)) (n : ℕ) (b : LogIdOf C) → Above c xs → slice_get xs n ≡ Some b
      → IsTrue (is_le (cmp c b.leader_id))
  above_place c [] n b h e = cc
  above_place c (x ∷ xs) zero b h e = let f : x ≡ b = cc in subst (λ (y : LogIdOf C). IsTrue (is_le (cmp c y.leader_id))) f h.0
  above_place c (x ∷ xs) (suc n) b h e = AtMost-trans total c x.leader_id b.leader_id h.0 (above_place x.leader_id xs n b h.1 e)

  above_places : (c : C) (xs : List (LogIdOf C)) (m n : ℕ) (a b : LogIdOf C) → Above c xs → m < n → slice_get xs m ≡ Some a
      → slice_get xs n ≡ Some b → IsTrue (is_le (cmp a.leader_id b.leader_id))
  above_places c [] m n a b h lt e f = cc
  above_places c (x ∷ xs) m zero a b h lt e f = absurd (omega arith)
  above_places c (x ∷ xs) zero (suc n) a b h lt e f = let g : x ≡ a = cc in
      subst (λ (y : LogIdOf C). IsTrue (is_le (cmp y.leader_id b.leader_id))) g (above_place x.leader_id xs n b h.1 f)
  above_places c (x ∷ xs) (suc m) (suc n) a b h lt e f = above_places x.leader_id xs m n a b h.1 (omega arith) e f

  pub never_fall : (ks : List (LogIdOf C)) → IsKeyList cmp ks → LeadersNeverFall cmp (full_log ks)
  never_fall [] s m n a b lt e f = cc
  never_fall (k ∷ ks) s m n a b lt e f = above_places k.leader_id (full_log (k ∷ ks)) m n a b
      (above_full k.leader_id k ks s (AtMost-refl total k.leader_id)) lt e f

  pub never_falls_at : (c : C) (b : ℕ) (xs : List (LogIdOf C)) (i j : ℕ) (x y : LogIdOf C) → Above c xs → From b xs → i < j
      → id_at xs i ≡ Some x → id_at xs j ≡ Some y → IsTrue (is_le (cmp x.leader_id y.leader_id))
  never_falls_at c b xs i j x y a h lt e f =
      let m = place_found b xs i x h e in let m0 = m.0 in let n = place_found b xs j y h f in
      above_places c xs (i - b) (j - b) x y a (omega arith) m.1 n.1

  pub never_fall_by_index : (ks : List (LogIdOf C)) → IsKeyList cmp ks → LeadersNeverFallByIndex cmp (full_log ks)
  never_fall_by_index [] s i j a b lt e f = cc
  never_fall_by_index (k ∷ ks) s i j a b lt e f =
      never_falls_at k.leader_id k.index (full_log (k ∷ ks)) i j a b (above_full k.leader_id k ks s (AtMost-refl total k.leader_id))
      (from_full cmp k ks s) lt e f

  -- the last log id of a log is at least each of it
  last_above : (c : C) (b i : ℕ) (x : LogIdOf C) (xs : List (LogIdOf C)) → Above c (x ∷ xs) → From b (x ∷ xs) → i ≤ b
      → (z : LogIdOf C) × (last_id (x ∷ xs) ≡ Some z) × (is_le (cmp c z.leader_id) ≡ true) × (i ≤ z.index)
  last_above c b i x [] a h le = let h0 = h.0 in (x, refl, a.0, omega arith)
  last_above c b i x (y ∷ ys) a h le =
      let z = last_above x.leader_id (b + 1) i y ys a.1 h.1 (omega arith) in
      (z.0, z.1, AtMost-trans total c x.leader_id z.0.leader_id a.0 z.2, z.3)

  pub last_at_least : (c : C) (b j : ℕ) (xs : List (LogIdOf C)) (x : LogIdOf C) → Above c xs → From b xs → id_at xs j ≡ Some x
      → (z : LogIdOf C) × (last_id xs ≡ Some z) × (is_le (cmp x.leader_id z.leader_id) ≡ true) × (j ≤ z.index)
  last_at_least c b j [] x a h e = cc
  last_at_least c b j (y ∷ ys) x a h e = by (y.index == j) refl e (λ k. last_at_least y.leader_id (b + 1) j ys x a.1 h.1 k)
    where
      here : y.index ≡ j → y ≡ x → (z : LogIdOf C) × (last_id (y ∷ ys) ≡ Some z) × (is_le (cmp x.leader_id z.leader_id) ≡ true)
          × (j ≤ z.index)
      here at f =
          let h0 = h.0 in
          let own : Above y.leader_id (y ∷ ys) = (AtMost-refl total y.leader_id, a.1) in
          let z = last_above y.leader_id b j y ys own h (omega arith) in
          (z.0, z.1, subst (λ (w : LogIdOf C). is_le (cmp w.leader_id z.0.leader_id) ≡ true) f z.2, z.3)

      later : (zs : List (LogIdOf C)) → id_at zs j ≡ Some x
          → ((z : LogIdOf C) × (last_id zs ≡ Some z) × (is_le (cmp x.leader_id z.leader_id) ≡ true) × (j ≤ z.index))
          → (z : LogIdOf C) × (last_id (y ∷ zs) ≡ Some z) × (is_le (cmp x.leader_id z.leader_id) ≡ true) × (j ≤ z.index)
      later [] e last = cc
      later (w ∷ ws) e last = last

      by : (t : Bool) → t ≡ (y.index == j) → (if t then Some y else id_at ys j) ≡ Some x
          → (id_at ys j ≡ Some x → (z : LogIdOf C) × (last_id ys ≡ Some z) × (is_le (cmp x.leader_id z.leader_id) ≡ true) × (j ≤ z.index))
          → (z : LogIdOf C) × (last_id (y ∷ ys) ≡ Some z) × (is_le (cmp x.leader_id z.leader_id) ≡ true) × (j ≤ z.index)
      by true t e rest = let f : y ≡ x = cc in here (grind (arith, nat_tests)) f
      by false t e rest = later ys e (rest e)

  none_above : (c : C) (b : ℕ) (xs : List (LogIdOf C)) → Above c xs → From b xs → NoneAboveLast cmp xs
  none_above c b xs a h i = by (id_at xs i) refl
    where
      by : (o : Option (LogIdOf C)) → id_at xs i ≡ o → IsTrue (id_le cmp o (last_id xs))
      by None e = none_at_most cmp (last_id xs)
      by (Some x) e =
          let at : x.index ≡ i = rw e at (id_at-indexed xs i) in
          let z = last_at_least c b i xs x a h e in let z3 = z.3 in
          rw z.1 (then_below (cmp x.leader_id z.0.leader_id) x.index z.0.index z.2 (omega arith))

  pub none_above_last : (ks : List (LogIdOf C)) → IsKeyList cmp ks → NoneAboveLast cmp (full_log ks)
  none_above_last [] s i = refl
  none_above_last (k ∷ ks) s i = none_above k.leader_id k.index (full_log (k ∷ ks))
      (above_full k.leader_id k ks s (AtMost-refl total k.leader_id)) (from_full cmp k ks s) i
