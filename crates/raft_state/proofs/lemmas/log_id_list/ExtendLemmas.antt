-- What appending several ids does to the full log.
use Rattle.std.proofs.Common.{◌≡◌, ℕ, zero, suc, ◌+◌, ◌-◌, ◌≤◌, Bool, true, false, List, [], ◌∷◌, ◌++◌, if◌then◌else◌, IsTrue, nat_lt, refl, arith, length, drop, subst, ◌∙◌, Option, Some, None}
use Rattle.std.proofs.lemmas.Bool.{and_parts}
use Rattle.std.specs.declared.cmp.Ordering.{Ordering}
use Rattle.std.specs.Ordering.{is_le, is_lt}
use Rattle.std.specs.Option.{option_or}
use Rattle.std.specs.Cmp.{IsEquivalence, IsTotalOrder}
use Rattle.std.specs.Cmp.Derive.{both_true}
use Rattle.std.proofs.lemmas.Bool.Decides.{nat_tests}
use Rattle.raft_base.specs.LogId.{id_le}
use Rattle.raft_base.specs.LogIdLawful.{optional-log_id_cmp-total}
use Rattle.raft_base.specs.declared.log_id.LogIdOf.{LogIdOf}
use Rattle.raft_progress.proofs.lemmas.OrderLemmas.{AtMost-refl, AtMost-trans}
use Rattle.raft_state.specs.log_id_list.FullLog.{full_log}
use Rattle.raft_state.specs.Inner.KeyEdits.{keys_after_append, rest_after_append, keys_after_extend}
use Rattle.raft_state.proofs.lemmas.log_id_list.KeyListLemmas.{IsKeyList}
use Rattle.raft_state.specs.log_id_list.Keys.{key_follows, may_be_keys}
use Rattle.raft_state.specs.log_id_list.LogConditions.{all_follow, follows}
use Rattle.raft_state.specs.log_id_list.LogEdits.{log_after_append, log_after_extend, missing_ids}
use Rattle.raft_state.specs.log_id_list.LogReads.{first_id, last_id}
use Rattle.raft_state.proofs.lemmas.log_id_list.AppendLemmas.{CanAppend, full_after, same_append, same_ids, same_refl, stays_key_list}
use Rattle.raft_state.proofs.lemmas.log_id_list.IdOrderLemmas.{leaders_trans, then_below}
use Rattle.raft_state.proofs.lemmas.log_id_list.SameLogLemmas.{SameLog}
use Rattle.raft_state.proofs.lemmas.log_id_list.EndsLemmas.{last_of_some}

-- what the tests mean
pub can_append : {C : Type 0} (cmp : C → C → Ordering) (ks : List (LogIdOf C)) (id : LogIdOf C) → IsTrue (follows cmp (last_id ks) id)
    → CanAppend cmp ks id
can_append cmp [] id h = tt
can_append cmp (k ∷ []) id h = let b = and_parts (nat_lt k.index id.index) (is_le (cmp k.leader_id id.leader_id)) h in let b0 = b.0 in
    (grind (arith, nat_tests), b.1)
can_append cmp (k ∷ l ∷ ks) id h = can_append cmp (l ∷ ks) id h

pub is_key_list : {C : Type 0} (cmp : C → C → Ordering) (ks : List (LogIdOf C)) → IsTrue (may_be_keys cmp ks) → IsKeyList cmp ks
is_key_list cmp [] h = tt
is_key_list cmp (k ∷ []) h = tt
is_key_list cmp (k ∷ l ∷ []) h =
    let b = and_parts (key_follows cmp k l true) true h in
    let f = and_parts (nat_lt k.index l.index) (is_le (cmp k.leader_id l.leader_id)) b.0 in let f0 = f.0 in (grind (arith, nat_tests), f.1)
is_key_list cmp (k ∷ l ∷ m ∷ ks) h =
    let b = and_parts (key_follows cmp k l false) (may_be_keys cmp (l ∷ m ∷ ks)) h in
    let f = and_parts (nat_lt k.index l.index) (is_lt (cmp k.leader_id l.leader_id)) b.0 in let f0 = f.0 in
    (grind (arith, nat_tests), f.1, is_key_list cmp (l ∷ m ∷ ks) b.1)

-- and when it is true
pub are_keys : {C : Type 0} (cmp : C → C → Ordering) (ks : List (LogIdOf C)) → IsKeyList cmp ks → IsTrue (may_be_keys cmp ks)
are_keys cmp [] s = refl
are_keys cmp (k ∷ []) s = refl
are_keys cmp (k ∷ l ∷ []) s =
    let s0 = s.0 in
    let t : nat_lt k.index l.index ≡ true = grind (arith, nat_tests) in
    both_true (both_true t s.1) refl
are_keys cmp (k ∷ l ∷ m ∷ ks) s =
    let s0 = s.0 in
    let t : nat_lt k.index l.index ≡ true = grind (arith, nat_tests) in
    both_true (both_true t s.1) (are_keys cmp (l ∷ m ∷ ks) s.2)

-- the last key after an append is the id
if_last : {C : Type 0} (t : Bool) (l id : LogIdOf C) → last_id (if t then id ∷ [] else l ∷ id ∷ []) ≡ Some id
if_last true l id = refl
if_last false l id = refl

last_cons : {C : Type 0} (k : LogIdOf C) (xs : List (LogIdOf C)) (y : LogIdOf C) → last_id xs ≡ Some y → last_id (k ∷ xs) ≡ Some y
last_cons k [] y h = cc
last_cons k (x ∷ xs) y h = h

last_after_added : {C : Type 0} (eq : C → C → Bool) (k : LogIdOf C) (ks : List (LogIdOf C)) (id : LogIdOf C)
    → last_id (rest_after_append eq k ks id) ≡ Some id
last_after_added eq k [] id = refl
last_after_added eq k (l ∷ []) id = if_last (eq k.leader_id l.leader_id) l id
last_after_added eq k (l ∷ m ∷ ks) id = last_cons l (rest_after_append eq l (m ∷ ks) id) id (last_after_added eq l (m ∷ ks) id)

pub last_added : {C : Type 0} (eq : C → C → Bool) (ks : List (LogIdOf C)) (id : LogIdOf C) → last_id (keys_after_append eq ks id) ≡ Some id
last_added eq [] id = refl
last_added eq (k ∷ ks) id = last_cons k (rest_after_append eq k ks id) id (last_after_added eq k ks id)

last_or_new : {C : Type 0} (id : LogIdOf C) (ids : List (LogIdOf C)) (o : Option (LogIdOf C))
    → option_or (last_id ids) (Some id) ≡ option_or (last_id (id ∷ ids)) o
last_or_new id [] o = refl
last_or_new id (x ∷ xs) o = rw (last_of_some x xs) refl

-- and after several ones the leader of the last one
pub last_added_all : {C : Type 0} (eq : C → C → Bool) (ks ids : List (LogIdOf C))
    → last_id (keys_after_extend eq ks ids) ≡ option_or (last_id ids) (last_id ks)
last_added_all eq ks [] = refl
last_added_all eq ks (id ∷ ids) = last_added_all eq (keys_after_append eq ks id) ids
    ∙ rw (last_added eq ks id) (last_or_new id ids (last_id ks))

module _ {C : Type 0} (eq : C → C → Bool) (eqs : IsEquivalence eq) where
  same_trans : (xs ys zs : List (LogIdOf C)) → SameLog eq xs ys → SameLog eq ys zs → SameLog eq xs zs
  same_trans [] [] [] h g = tt
  same_trans [] [] (z ∷ zs) h g = absurd g
  same_trans [] (y ∷ ys) zs h g = absurd h
  same_trans (x ∷ xs) [] zs h g = absurd h
  same_trans (x ∷ xs) (y ∷ ys) [] h g = absurd g
  same_trans (x ∷ xs) (y ∷ ys) (z ∷ zs) h g =
      (leaders_trans eqs x.leader_id y.leader_id z.leader_id h.0 g.0, h.1 ∙ g.1, same_trans xs ys zs h.2 g.2)

  same_missing : (xs ys : List (LogIdOf C)) (i : ℕ) → SameLog eq xs ys → SameLog eq (missing_ids xs i) (missing_ids ys i)
  same_missing [] [] i h = tt
  same_missing [] (y ∷ ys) i h = absurd h
  same_missing (x ∷ xs) [] i h = absurd h
  same_missing (x ∷ []) (y ∷ []) i h = rw h.1 (same_ids eq eqs.refl x.leader_id y.leader_id (y.index + 1) (i - (y.index + 1)) h.0)
  same_missing (x ∷ []) (y ∷ z ∷ ys) i h = absurd h.2
  same_missing (x ∷ w ∷ xs) (y ∷ []) i h = absurd h.2
  same_missing (x ∷ w ∷ xs) (y ∷ z ∷ ys) i h = same_missing (w ∷ xs) (z ∷ ys) i h.2

  pub same_appended : (xs ys : List (LogIdOf C)) (id : LogIdOf C) → SameLog eq xs ys
      → SameLog eq (log_after_append xs id) (log_after_append ys id)
  same_appended xs ys id h = same_append eq eqs.refl (xs ++ missing_ids xs id.index) (ys ++ missing_ids ys id.index) (id ∷ []) (id ∷ [])
      (same_append eq eqs.refl xs ys (missing_ids xs id.index) (missing_ids ys id.index) h (same_missing xs ys id.index h))
      (same_refl eq eqs.refl (id ∷ []))

  pub same_extended : (xs ys ids : List (LogIdOf C)) → SameLog eq xs ys → SameLog eq (log_after_extend xs ids) (log_after_extend ys ids)
  same_extended xs ys [] h = h
  same_extended xs ys (id ∷ ids) h = same_extended (log_after_append xs id) (log_after_append ys id) ids (same_appended xs ys id h)

  module _ (cmp : C → C → Ordering) (less : (a b : C) → IsTrue (is_le (cmp a b)) → eq a b ≡ false → IsTrue (is_lt (cmp a b)))
      (upto : (a b c : C) → eq a b ≡ true → IsTrue (is_le (cmp b c)) → IsTrue (is_le (cmp a c))) where
    -- keys after several appends: a key list, with the full log of the same appends
    pub all_stay : (ks ids : List (LogIdOf C)) → IsKeyList cmp ks → IsTrue (all_follow cmp (last_id ks) ids)
        → IsKeyList cmp (keys_after_extend eq ks ids)
    all_stay ks [] s h = s
    all_stay ks (id ∷ ids) s h =
        let b = and_parts (follows cmp (last_id ks) id) (all_follow cmp (Some id) ids) h in
        all_stay (keys_after_append eq ks id) ids (stays_key_list eq eqs.refl cmp less upto ks id s (can_append cmp ks id b.0))
        (rw (last_added eq ks id) b.1)

    pub full_after_all : (ks ids : List (LogIdOf C)) → IsKeyList cmp ks → IsTrue (all_follow cmp (last_id ks) ids)
        → SameLog eq (full_log (keys_after_extend eq ks ids)) (log_after_extend (full_log ks) ids)
    full_after_all ks [] s h = same_refl eq eqs.refl (full_log ks)
    full_after_all ks (id ∷ ids) s h =
        let b = and_parts (follows cmp (last_id ks) id) (all_follow cmp (Some id) ids) h in
        let can = can_append cmp ks id b.0 in
        same_trans (full_log (keys_after_extend eq (keys_after_append eq ks id) ids))
        (log_after_extend (full_log (keys_after_append eq ks id)) ids) (log_after_extend (log_after_append (full_log ks) id) ids)
        (full_after_all (keys_after_append eq ks id) ids (stays_key_list eq eqs.refl cmp less upto ks id s can)
        (rw (last_added eq ks id) b.1))
        (same_extended (full_log (keys_after_append eq ks id)) (log_after_append (full_log ks) id) ids
        (full_after eq eqs.refl cmp ks id s can))

-- a log id that may come after the last one is above it
pub step_above : {C : Type 0} (cmp : C → C → Ordering) (last : Option (LogIdOf C)) (id : LogIdOf C) → IsTrue (follows cmp last id)
    → id_le cmp last (Some id) ≡ true
step_above cmp None id h = refl
step_above cmp (Some l) id h =
    let b = and_parts (nat_lt l.index id.index) (is_le (cmp l.leader_id id.leader_id)) h in let b0 = b.0 in
    then_below (cmp l.leader_id id.leader_id) l.index id.index b.1 (grind (arith, nat_tests))

-- and so is the last one of several
pub extend_raises : {C : Type 0} {cmp : C → C → Ordering} → IsTotalOrder cmp → (last : Option (LogIdOf C)) (ids : List (LogIdOf C))
    → IsTrue (all_follow cmp last ids)
    → id_le cmp last (option_or (last_id ids) last) ≡ true
extend_raises total last [] h = AtMost-refl (optional-log_id_cmp-total total) last
extend_raises {C} {cmp} total last (id ∷ ids) h =
    let b = and_parts (follows cmp last id) (all_follow cmp (Some id) ids) h in
    AtMost-trans (optional-log_id_cmp-total total) last (Some id) (option_or (last_id (id ∷ ids)) last) (step_above cmp last id b.0)
    (subst (λ (o : Option (LogIdOf C)). id_le cmp (Some id) o ≡ true) (last_or_new id ids last) (extend_raises total (Some id) ids b.1))

-- a log that is extended begins as before, and an empty one with the first of the log ids
first_stays : {C : Type 0} (x : LogIdOf C) (log ids : List (LogIdOf C)) → first_id (log_after_extend (x ∷ log) ids) ≡ Some x
first_stays x log [] = refl
first_stays x log (id ∷ ids) = first_stays x (log ++ missing_ids (x ∷ log) id.index ++ id ∷ []) ids

pub first_extended : {C : Type 0} (log ids : List (LogIdOf C))
    → first_id (log_after_extend log ids) ≡ option_or (first_id log) (first_id ids)
first_extended [] [] = refl
first_extended [] (id ∷ ids) = first_stays id [] ids
first_extended (x ∷ log) ids = first_stays x log ids

-- a key or none is left
pub short_list : {C : Type 0} (cmp : C → C → Ordering) (ks : List (LogIdOf C)) (n : ℕ) → length ks ≤ n + 1
    → may_be_keys cmp (drop n ks) ≡ true
short_list cmp [] zero le = refl
short_list cmp [] (suc n) le = refl
short_list cmp (k ∷ []) zero le = refl
short_list cmp (k ∷ l ∷ ks) zero le = absurd (omega arith)
short_list cmp (k ∷ ks) (suc n) le = short_list cmp ks n (omega arith)
