-- What an append to the keys does to the full log.
use Rattle.std.proofs.Common.{◌≡◌, ℕ, zero, suc, ◌+◌, ◌-◌, ◌<◌, ◌≤◌, Bool, true, false, List, [], ◌∷◌, ◌++◌, if◌then◌else◌, IsTrue, refl, sym, arith, append_assoc, length, get_or, set, ap}
use Rattle.std.specs.declared.cmp.Ordering.{Ordering}
use Rattle.std.specs.Ordering.{is_le, is_lt}
use Rattle.raft_base.specs.declared.log_id.LogIdOf.{LogIdOf}
use Rattle.raft_state.specs.log_id_list.FullLog.{full_log, ids_of}
use Rattle.raft_state.specs.Inner.KeyEdits.{keys_after_append, rest_after_append}
use Rattle.raft_state.proofs.lemmas.log_id_list.KeyListLemmas.{IsKeyList}
use Rattle.raft_state.specs.log_id_list.LogEdits.{log_after_append, missing_ids}
use Rattle.raft_state.proofs.lemmas.log_id_list.SameLogLemmas.{SameLog}

-- a log id may follow these keys: it has a greater index than the last one, and no lesser leader
abbrev pub CanAppend : {C : Type 0} → (C → C → Ordering) → List (LogIdOf C) → LogIdOf C → Type 0
CanAppend cmp [] id = Unit {0}
CanAppend cmp (k ∷ []) id = (k.index < id.index) × IsTrue (is_le (cmp k.leader_id id.leader_id))
CanAppend cmp (k ∷ l ∷ ks) id = CanAppend cmp (l ∷ ks) id

-- some ids of a leader, and then more
pub ids_split : {C : Type 0} (c : C) (i a b : ℕ) → ids_of c i (a + b) ≡ ids_of c i a ++ ids_of c (i + a) b
ids_split c i zero b = let e : zero + b ≡ b = omega arith in let f : i + zero ≡ i = omega arith in rw (e, f) refl
ids_split c i (suc a) b = let e : suc a + b ≡ suc (a + b) = omega arith in let f : i + suc a ≡ (i + 1) + a = omega arith in
    rw (e, f, ids_split c (i + 1) a b) refl

pub one_id : {C : Type 0} (k : LogIdOf C) → ids_of k.leader_id k.index (k.index + 1 - k.index) ≡ k ∷ []
one_id k = let e : k.index + 1 - k.index ≡ suc zero = omega arith in rw e refl

module _ {C : Type 0} (eq : C → C → Bool) (same : (c : C) → eq c c ≡ true) where
  pub same_refl : (xs : List (LogIdOf C)) → SameLog eq xs xs
  same_refl [] = tt
  same_refl (x ∷ xs) = (same x.leader_id, refl, same_refl xs)

  pub same_append : (xs ys us vs : List (LogIdOf C)) → SameLog eq xs ys → SameLog eq us vs → SameLog eq (xs ++ us) (ys ++ vs)
  same_append [] [] us vs h g = g
  same_append [] (y ∷ ys) us vs h g = absurd h
  same_append (x ∷ xs) [] us vs h g = absurd h
  same_append (x ∷ xs) (y ∷ ys) us vs h g = (h.0, h.1, same_append xs ys us vs h.2 g)

  pub same_ids : (c d : C) (i n : ℕ) → eq c d ≡ true → SameLog eq (ids_of c i n) (ids_of d i n)
  same_ids c d i zero e = tt
  same_ids c d i (suc n) e = (e, refl, same_ids c d (i + 1) n e)

  -- what is missing depends on the last id
  missing_append : (xs : List (LogIdOf C)) (l : LogIdOf C) (i : ℕ)
      → missing_ids (xs ++ l ∷ []) i ≡ ids_of l.leader_id (l.index + 1) (i - (l.index + 1))
  missing_append [] l i = refl
  missing_append (x ∷ []) l i = refl
  missing_append (x ∷ y ∷ xs) l i = missing_append (y ∷ xs) l i

  -- one key, and then an id
  full_one : (k id : LogIdOf C) → k.index < id.index → full_log (k ∷ id ∷ []) ≡ log_after_append (full_log (k ∷ [])) id
  full_one k id lt =
      let n : id.index - k.index ≡ suc (id.index - (k.index + 1)) = omega arith in
      rw (one_id id, one_id k, n) refl

  -- an append to a log with ids before it
  appended_before : (xs ys : List (LogIdOf C)) (y id : LogIdOf C)
      → log_after_append (xs ++ (ys ++ y ∷ [])) id ≡ xs ++ log_after_append (ys ++ y ∷ []) id
  appended_before xs ys y id =
      let m1 = missing_append (xs ++ ys) y id.index in
      let m2 = missing_append ys y id.index in
      let a : xs ++ (ys ++ y ∷ []) ≡ (xs ++ ys) ++ y ∷ [] = sym (append_assoc xs ys (y ∷ [])) in
      let m3 : missing_ids (xs ++ (ys ++ y ∷ [])) id.index ≡ missing_ids (ys ++ y ∷ []) id.index = rw (a, m1, m2) refl in
      rw m3 (simp append_assoc)

  -- the full log ends with the last key
  ends : (k : LogIdOf C) (ks : List (LogIdOf C)) → (xs : List (LogIdOf C)) × (y : LogIdOf C) × (full_log (k ∷ ks) ≡ xs ++ y ∷ [])
  ends k [] = ([], k, rw (one_id k) refl)
  ends k (l ∷ ks) = let e = ends l ks in (
    ids_of k.leader_id k.index (l.index - k.index)
        ++ e.0,
    e.1,
    rw (e.2, append_assoc (ids_of k.leader_id k.index (l.index - k.index)) e.0 (e.1 ∷ [])) refl,
  )

  appended_full : (k l : LogIdOf C) (ks : List (LogIdOf C)) (id : LogIdOf C)
      → log_after_append (full_log (k ∷ l ∷ ks)) id
      ≡ ids_of k.leader_id k.index (l.index - k.index) ++ log_after_append (full_log (l ∷ ks)) id
  appended_full k l ks id = let e = ends l ks in let q = appended_before (ids_of k.leader_id k.index (l.index - k.index)) e.0 e.1 id in
      rw e.2 q

  -- two keys of one leader, the last of which is replaced
  full_gives_way : (k l id : LogIdOf C) → k.index < l.index → l.index < id.index → eq k.leader_id l.leader_id ≡ true
      → SameLog eq (full_log (k ∷ id ∷ [])) (log_after_append (full_log (k ∷ l ∷ [])) id)
  full_gives_way k l id kl li e =
      let n : id.index - k.index ≡ (l.index - k.index) + suc (id.index - (l.index + 1)) = omega arith in
      let at : k.index + (l.index - k.index) ≡ l.index = omega arith in
      let one : ids_of id.leader_id id.index (id.index + 1 - id.index) ≡ id ∷ [] = one_id id in
      let left : full_log (k ∷ id ∷ []) ≡ (ids_of k.leader_id k.index (l.index - k.index)
      ++ ids_of k.leader_id l.index (suc (id.index - (l.index + 1)))) ++ id ∷ [] =
      rw (one, n, ids_split k.leader_id k.index (l.index - k.index) (suc (id.index - (l.index + 1))), at) refl in
      let right : log_after_append (full_log (k ∷ l ∷ [])) id
      ≡ ids_of k.leader_id k.index (l.index - k.index) ++ (ids_of l.leader_id l.index (suc (id.index - (l.index + 1))) ++ id ∷ []) =
      rw (appended_full k l [] id, one_id l) refl in
      rw (left, right, append_assoc)
      (same_append (ids_of k.leader_id k.index (l.index - k.index)) (ids_of k.leader_id k.index (l.index - k.index)) _ _ (same_refl _)
      (same_append (ids_of k.leader_id l.index (suc (id.index - (l.index + 1))))
      (ids_of l.leader_id l.index (suc (id.index - (l.index + 1)))) _ _
      (same_ids k.leader_id l.leader_id l.index (suc (id.index - (l.index + 1))) e) (same_refl (id ∷ []))))

  -- the keys after an append have the full log after it
  pub full_added : (cmp : C → C → Ordering) (k : LogIdOf C) (ks : List (LogIdOf C)) (id : LogIdOf C) → IsKeyList cmp (k ∷ ks)
      → CanAppend cmp (k ∷ ks) id → SameLog eq (full_log (k ∷ rest_after_append eq k ks id)) (log_after_append (full_log (k ∷ ks)) id)
  full_added cmp k [] id s can = rw (full_one k id can.0) (same_refl _)
  full_added cmp k (l ∷ []) id s can = by_last (eq k.leader_id l.leader_id) refl
    where
      by_last : (t : Bool) → t ≡ eq k.leader_id l.leader_id
          → SameLog eq (full_log (k ∷ (if t then id ∷ [] else l ∷ id ∷ []))) (log_after_append (full_log (k ∷ l ∷ [])) id)
      by_last true e = full_gives_way k l id s.0 can.0 (sym e)
      by_last false e = rw (appended_full k l [] id, full_one l id can.0) (same_refl _)
  full_added cmp k (l ∷ m ∷ ks) id s can =
      rw (appended_full k l (m ∷ ks) id) (same_append (ids_of k.leader_id k.index (l.index - k.index))
      (ids_of k.leader_id k.index (l.index - k.index)) _ _ (same_refl _) (full_added cmp l (m ∷ ks) id s.2 can))

  -- the last key is replaced
  pub gives_way : (ks : List (LogIdOf C)) (n : ℕ) (id x y : LogIdOf C) → length ks ≡ suc (suc n) → x ≡ get_or ks n x
      → y ≡ get_or ks (suc n) y → eq x.leader_id y.leader_id ≡ true → set ks (suc n) id ≡ keys_after_append eq ks id
  gives_way [] n id x y len p q e = absurd (omega arith)
  gives_way (k ∷ []) n id x y len p q e = absurd (omega arith)
  gives_way (k ∷ l ∷ []) zero id x y len p q e = let t : eq k.leader_id l.leader_id ≡ true = rw (← p, ← q) e in rw t refl
  gives_way (k ∷ l ∷ []) (suc n) id x y len p q e = absurd (omega arith)
  gives_way (k ∷ l ∷ m ∷ ks) zero id x y len p q e = absurd (omega arith)
  gives_way (k ∷ l ∷ m ∷ ks) (suc n) id x y len p q e =
      ap (λ (r : List (LogIdOf C)). k ∷ r) (gives_way (l ∷ m ∷ ks) n id x y (omega arith) p q e)

  -- the last two keys, and that their leaders differ
  abbrev pub Differ : List (LogIdOf C) → ℕ → Type 0
  Differ ks n = (x : LogIdOf C) × (y : LogIdOf C) × (x ≡ get_or ks n x) × (y ≡ get_or ks (suc n) y) × (eq x.leader_id y.leader_id ≡ false)

  -- the id comes after all keys
  pub comes_after : (ks : List (LogIdOf C)) (id : LogIdOf C) → ((n : ℕ) → length ks ≡ suc (suc n) → Differ ks n)
      → ks ++ id ∷ [] ≡ keys_after_append eq ks id
  comes_after [] id d = refl
  comes_after (k ∷ []) id d = refl
  comes_after (k ∷ l ∷ []) id d = let (x, y, p, q, e) = d zero refl in let t : eq k.leader_id l.leader_id ≡ false = rw (← p, ← q) e in
      rw t refl
  comes_after (k ∷ l ∷ m ∷ ks) id d = ap (λ (r : List (LogIdOf C)). k ∷ r) (comes_after (l ∷ m ∷ ks) id (λ n len. d (suc n) (omega arith)))

  pub full_after : (cmp : C → C → Ordering) (ks : List (LogIdOf C)) (id : LogIdOf C) → IsKeyList cmp ks → CanAppend cmp ks id
      → SameLog eq (full_log (keys_after_append eq ks id)) (log_after_append (full_log ks) id)
  full_after cmp [] id s can = rw (one_id id) (same_refl (id ∷ []))
  full_after cmp (k ∷ ks) id s can = full_added cmp k ks id s can

  -- some key follows
  some_if : (t : Bool) (l id : LogIdOf C) → 1 ≤ length (if t then id ∷ [] else l ∷ id ∷ [])
  some_if true l id = omega arith
  some_if false l id = omega arith

  pub some_after : (k : LogIdOf C) (ks : List (LogIdOf C)) (id : LogIdOf C) → 1 ≤ length (rest_after_append eq k ks id)
  some_after k [] id = omega arith
  some_after k (l ∷ []) id = some_if (eq k.leader_id l.leader_id) l id
  some_after k (l ∷ m ∷ ks) id = omega arith

  -- the keys stay a key list
  module _ (cmp : C → C → Ordering) (less : (a b : C) → IsTrue (is_le (cmp a b)) → eq a b ≡ false → IsTrue (is_lt (cmp a b)))
      (upto : (a b c : C) → eq a b ≡ true → IsTrue (is_le (cmp b c)) → IsTrue (is_le (cmp a c))) where
    cons_stays : (k l : LogIdOf C) (xs : List (LogIdOf C)) → 1 ≤ length xs → k.index < l.index
        → IsTrue (is_lt (cmp k.leader_id l.leader_id)) → IsKeyList cmp (l ∷ xs) → IsKeyList cmp (k ∷ l ∷ xs)
    cons_stays k l [] some i o s = absurd (omega arith)
    cons_stays k l (x ∷ xs) some i o s = (i, o, s)

    after_stays : (k : LogIdOf C) (ks : List (LogIdOf C)) (id : LogIdOf C) → IsKeyList cmp (k ∷ ks) → CanAppend cmp (k ∷ ks) id
        → IsKeyList cmp (k ∷ rest_after_append eq k ks id)
    after_stays k [] id s can = can
    after_stays k (l ∷ []) id s can = by_last (eq k.leader_id l.leader_id) refl
      where
        by_last : (t : Bool) → t ≡ eq k.leader_id l.leader_id → IsKeyList cmp (k ∷ (if t then id ∷ [] else l ∷ id ∷ []))
        by_last true e = let s0 = s.0 in let c0 = can.0 in (omega arith, upto k.leader_id l.leader_id id.leader_id (sym e) can.1)
        by_last false e = (s.0, less k.leader_id l.leader_id s.1 (sym e), can)
    after_stays k (l ∷ m ∷ ks) id s can =
        cons_stays k l (rest_after_append eq l (m ∷ ks) id) (some_after l (m ∷ ks) id) s.0 s.1 (after_stays l (m ∷ ks) id s.2 can)

    pub stays_key_list : (ks : List (LogIdOf C)) (id : LogIdOf C) → IsKeyList cmp ks → CanAppend cmp ks id
        → IsKeyList cmp (keys_after_append eq ks id)
    stays_key_list [] id s can = tt
    stays_key_list (k ∷ ks) id s can = after_stays k ks id s can
