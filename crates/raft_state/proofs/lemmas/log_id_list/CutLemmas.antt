-- What a truncation or a purge of the keys does to the full log.
use Rattle.std.proofs.Common.{◌≡◌, ℕ, zero, suc, ◌+◌, ◌-◌, ◌<◌, ◌≤◌, min, max, Bool, true, false, List, [], ◌∷◌, ◌++◌, if◌then◌else◌, IsTrue, nat_lt, nat_le, refl, sym, arith, length, get_or, set, ap, take, drop, ◌∙◌, inl, inr, drop-cons, subst, length-drop}
use Rattle.std.specs.declared.cmp.Ordering.{Ordering}
use Rattle.std.specs.Ordering.{is_le, is_lt}
use Rattle.std.proofs.lemmas.Bool.{cases_lt}
use Rattle.std.proofs.lemmas.Bool.Decides.{nat_tests}
use Rattle.std.proofs.lemmas.List.Elements.{filter-append}
use Rattle.std.proofs.lemmas.List.{append-nil, take_more_set, take_at}
use Rattle.std.specs.Prelude.{slice_get}
use Rattle.raft_base.specs.LogId.{next_index}
use Rattle.raft_base.specs.declared.log_id.LogIdOf.{LogIdOf}
use Rattle.raft_progress.proofs.lemmas.OrderLemmas.{AtMost-from_lt}
use Rattle.raft_state.specs.log_id_list.FullLog.{end_index, ids_of_keys, first_index, first_index_or, full_log, ids_of}
use Rattle.raft_state.specs.Inner.KeyEdits.{keys_below, rest_up_to, keys_up_to, end_at, rest_from, keys_from, keys_after_purge}
use Rattle.raft_state.specs.Inner.KeyList.{Rises, keys_to}
use Rattle.raft_state.proofs.lemmas.log_id_list.KeyListLemmas.{IsKeyList, tail_keys}
use Rattle.raft_state.specs.log_id_list.Keys.{by_last_leader}
use Rattle.raft_state.specs.log_id_list.LogEdits.{front, log_after_purge, rest}
use Rattle.raft_state.specs.log_id_list.LogReads.{first_id, last_id}
use Rattle.raft_state.proofs.lemmas.log_id_list.FullLogLemmas.{key_list_rises, key_list_rises_zero, next_by_place, rises_end}
use Rattle.raft_state.proofs.lemmas.log_id_list.AppendLemmas.{ids_split, one_id}

-- ids of one leader below and from an index on
pub front_ids : {C : Type 0} (c : C) (i n a : ℕ) → front (ids_of c i n) a ≡ ids_of c i (min n (a - i))
front_ids c i zero a = let z : min 0 (a - i) ≡ 0 = omega arith in rw z refl
front_ids c i (suc n) a = elim (cases_lt i a) [
  | inl below ↦ (let t : nat_lt i a ≡ true = grind (arith, nat_tests) in
      let m : min (suc n) (a - i) ≡ suc (min n (a - (i + 1))) = omega arith in
      rw (t, m, front_ids c (i + 1) n a) refl)
  | inr past ↦ (let t : nat_lt i a ≡ false = grind (arith, nat_tests) in
      let m : min (suc n) (a - i) ≡ 0 = omega arith in
      let z : min n (a - (i + 1)) ≡ 0 = omega arith in
      rw (t, m, front_ids c (i + 1) n a, z) refl)
]

pub rest_ids : {C : Type 0} (c : C) (i n a : ℕ) → rest (ids_of c i n) a ≡ ids_of c (max i a) (n - (a - i))
rest_ids c i zero a = let z : 0 - (a - i) ≡ 0 = omega arith in rw z refl
rest_ids c i (suc n) a = elim (cases_lt i a) [
  | inl below ↦ (let t : nat_le a i ≡ false = grind (arith, nat_tests) in
      let m : suc n - (a - i) ≡ n - (a - (i + 1)) = omega arith in
      let p : max i a ≡ max (i + 1) a = omega arith in
      rw (t, m, p) (rest_ids c (i + 1) n a))
  | inr past ↦ (let t : nat_le a i ≡ true = grind (arith, nat_tests) in
      let m : suc n - (a - i) ≡ suc n = omega arith in
      let p : max i a ≡ i = omega arith in
      let q : max (i + 1) a ≡ i + 1 = omega arith in
      let r : n - (a - (i + 1)) ≡ n = omega arith in
      rw (t, m, p, rest_ids c (i + 1) n a, q, r) refl)
]

pub front_above : {C : Type 0} (b : ℕ) (ks : List (LogIdOf C)) (e a : ℕ) → Rises b ks e → a ≤ b → front (ids_of_keys ks e) a ≡ []
front_above b [] e a r le = refl
front_above b (k ∷ ks) e a r le =
    let r0 = r.0 in
    let z : min (first_index_or ks e - k.index) (a - k.index) ≡ 0 = omega arith in
    filter-append (λ id. nat_lt id.index a) (ids_of k.leader_id k.index (first_index_or ks e - k.index)) (ids_of_keys ks e)
    ∙ rw (front_ids k.leader_id k.index (first_index_or ks e - k.index) a, z) (front_above (k.index + 1) ks e a r.1 (omega arith))

pub rest_above : {C : Type 0} (b : ℕ) (ks : List (LogIdOf C)) (e a : ℕ) → Rises b ks e → a ≤ b
    → rest (ids_of_keys ks e) a ≡ ids_of_keys ks e
rest_above b [] e a r le = refl
rest_above b (k ∷ ks) e a r le =
    let r0 = r.0 in
    let n = first_index_or ks e - k.index in
    let z : n - (a - k.index) ≡ n = omega arith in
    let p : max k.index a ≡ k.index = omega arith in
    filter-append (λ id. nat_le a id.index) (ids_of k.leader_id k.index n) (ids_of_keys ks e)
    ∙ rw (rest_ids k.leader_id k.index n a, z, p, rest_above (k.index + 1) ks e a r.1 (omega arith)) refl

-- the full log of a key and a last key at index j
one_to : {C : Type 0} (k : LogIdOf C) (j : ℕ) → k.index ≤ j → full_log (k ∷ end_at k j) ≡ ids_of k.leader_id k.index (j + 1 - k.index)
one_to {C} k j le = elim (cases_lt k.index j) [
  | inl below ↦ (let t : nat_lt k.index j ≡ true = grind (arith, nat_tests) in
      let last : LogIdOf C = record { leader_id = k.leader_id; index = j } in
      let one : ids_of k.leader_id j (j + 1 - j) ≡ last ∷ [] = one_id last in
      let sum : j + 1 - k.index ≡ (j - k.index) + 1 = omega arith in
      let at : k.index + (j - k.index) ≡ j = omega arith in
      rw (t, one, sum, ids_split k.leader_id k.index (j - k.index) 1, at) refl)
  | inr past ↦ (let t : nat_lt k.index j ≡ false = grind (arith, nat_tests) in
      let e : j ≡ k.index = omega arith in
      rw (t, e) (append-nil (ids_of k.leader_id k.index (k.index + 1 - k.index))))
]

pub full_cut_after : {C : Type 0} (k : LogIdOf C) (ks : List (LogIdOf C)) (e j : ℕ) → Rises (k.index + 1) ks e → e ≡ end_index (k ∷ ks)
    → k.index ≤ j → full_log (k ∷ rest_up_to k ks j) ≡ front (full_log (k ∷ ks)) (suc j)
full_cut_after k [] e j r is le =
    let t : nat_lt k.index (suc j) ≡ true = grind (arith, nat_tests) in rw (one_id k, t) refl
full_cut_after k (l ∷ ks) e j r is le = filter-step (λ past. full_cut_after l ks e j r.1 is past) ∙ parts
  where
    filter-step : (l.index ≤ j → full_log (l ∷ rest_up_to l ks j) ≡ front (full_log (l ∷ ks)) (suc j))
        → full_log (k ∷ rest_up_to k (l ∷ ks) j) ≡ front (ids_of k.leader_id k.index (l.index - k.index)) (suc j)
        ++ front (full_log (l ∷ ks)) (suc j)
    filter-step more = let r0 = r.0 in elim (cases_lt j l.index) [
      | inl below ↦ (let t : nat_le l.index j ≡ false = grind (arith, nat_tests) in
          let m : min (l.index - k.index) (suc j - k.index) ≡ j + 1 - k.index = omega arith in
          let none : front (full_log (l ∷ ks)) (suc j) ≡ [] =
          front_above l.index (l ∷ ks) (end_index (l ∷ ks)) (suc j) (omega arith, rw is at r.1) (omega arith) in
          rw (
            t,
            none,
            front_ids k.leader_id k.index (l.index - k.index) (suc j),
            m,
            append-nil
                (ids_of k.leader_id k.index (j + 1 - k.index)),
          ) (one_to k j le))
      | inr past ↦ (let t : nat_le l.index j ≡ true = grind (arith, nat_tests) in
          let m : min (l.index - k.index) (suc j - k.index) ≡ l.index - k.index = omega arith in
          rw (t, front_ids k.leader_id k.index (l.index - k.index) (suc j), m)
          (ap (λ (x : List (LogIdOf _)). ids_of k.leader_id k.index (l.index - k.index) ++ x) (more past)))
    ]

    parts : front (ids_of k.leader_id k.index (l.index - k.index)) (suc j) ++ front (full_log (l ∷ ks)) (suc j)
        ≡ front (full_log (k ∷ l ∷ ks)) (suc j)
    parts = sym (filter-append (λ id. nat_lt id.index (suc j)) (ids_of k.leader_id k.index (l.index - k.index)) (full_log (l ∷ ks)))

none_below : {C : Type 0} (log : List (LogIdOf C)) → front log 0 ≡ []
none_below [] = refl
none_below (x ∷ xs) = let t : nat_lt x.index 0 ≡ false = grind (arith, nat_tests) in rw t (none_below xs)

-- the keys of a truncation have the beginning of the full log
pub full_cut : {C : Type 0} (cmp : C → C → Ordering) (ks : List (LogIdOf C)) (a : ℕ) → IsKeyList cmp ks
    → full_log (keys_below ks a) ≡ front (full_log ks) a
full_cut cmp ks zero s = sym (none_below (full_log ks))
full_cut cmp [] (suc j) s = refl
full_cut cmp (k ∷ ks) (suc j) s =
    let r = key_list_rises cmp k ks s in
    elim (cases_lt j k.index) [
      | inl below ↦ (let t : nat_le k.index j ≡ false = grind (arith, nat_tests) in
          rw t (sym (front_above k.index (k ∷ ks) (end_index (k ∷ ks)) (suc j) (omega arith, r) (omega arith))))
      | inr past ↦ (let t : nat_le k.index j ≡ true = grind (arith, nat_tests) in
          rw t (full_cut_after k ks (end_index (k ∷ ks)) j r refl past))
    ]

cons_key : {C : Type 0} (cmp : C → C → Ordering) (k l : LogIdOf C) (xs : List (LogIdOf C)) → k.index < l.index
    → IsTrue (is_lt (cmp k.leader_id l.leader_id)) → IsKeyList cmp (l ∷ xs) → IsKeyList cmp (k ∷ l ∷ xs)
cons_key cmp k l [] i o s = (i, AtMost-from_lt cmp k.leader_id l.leader_id o)
cons_key cmp k l (x ∷ xs) i o s = (i, o, s)

module _ {C : Type 0} (cmp : C → C → Ordering) (same : (c : C) → IsTrue (is_le (cmp c c))) where
  ends_stay : (k : LogIdOf C) (j : ℕ) → k.index ≤ j → IsKeyList cmp (k ∷ end_at k j)
  ends_stay k j le = elim (cases_lt k.index j) [
    | inl below ↦ (let t : nat_lt k.index j ≡ true = grind (arith, nat_tests) in rw t (below, same k.leader_id))
    | inr past ↦ (let t : nat_lt k.index j ≡ false = grind (arith, nat_tests) in rw t tt)
  ]

  cut_after_stays : (k : LogIdOf C) (ks : List (LogIdOf C)) (j : ℕ) → IsKeyList cmp (k ∷ ks) → k.index ≤ j
      → IsKeyList cmp (k ∷ rest_up_to k ks j)
  cut_after_stays k [] j s le = tt
  cut_after_stays k (l ∷ []) j s le = elim (cases_lt j l.index) [
    | inl below ↦ (let t : nat_le l.index j ≡ false = grind (arith, nat_tests) in rw t (ends_stay k j le))
    | inr past ↦ (let t : nat_le l.index j ≡ true = grind (arith, nat_tests) in rw t s)
  ]
  cut_after_stays k (l ∷ m ∷ ks) j s le = elim (cases_lt j l.index) [
    | inl below ↦ (let t : nat_le l.index j ≡ false = grind (arith, nat_tests) in rw t (ends_stay k j le))
    | inr past ↦ (let t : nat_le l.index j ≡ true = grind (arith, nat_tests) in
        rw t (cons_key cmp k l (rest_up_to l (m ∷ ks) j) s.0 s.1 (cut_after_stays l (m ∷ ks) j s.2 past)))
  ]

  pub cut_stays : (ks : List (LogIdOf C)) (a : ℕ) → IsKeyList cmp ks → IsKeyList cmp (keys_below ks a)
  cut_stays ks zero s = tt
  cut_stays [] (suc j) s = tt
  cut_stays (k ∷ ks) (suc j) s = elim (cases_lt j k.index) [
    | inl below ↦ (let t : nat_le k.index j ≡ false = grind (arith, nat_tests) in rw t tt)
    | inr past ↦ (let t : nat_le k.index j ≡ true = grind (arith, nat_tests) in rw t (cut_after_stays k ks j s past))
  ]

  kept_after_stays : (k : LogIdOf C) (ks : List (LogIdOf C)) (a : ℕ) → IsKeyList cmp (k ∷ ks) → IsKeyList cmp (rest_from k ks a)
  kept_after_stays k [] a s = tt
  kept_after_stays k (l ∷ []) a s = elim (cases_lt a l.index) [
    | inl below ↦ (let t : nat_le l.index a ≡ false = grind (arith, nat_tests) in rw t (below, s.1))
    | inr past ↦ (let t : nat_le l.index a ≡ true = grind (arith, nat_tests) in rw t tt)
  ]
  kept_after_stays k (l ∷ m ∷ ks) a s = elim (cases_lt a l.index) [
    | inl below ↦ (let t : nat_le l.index a ≡ false = grind (arith, nat_tests) in rw t (below, s.1, s.2))
    | inr past ↦ (let t : nat_le l.index a ≡ true = grind (arith, nat_tests) in rw t (kept_after_stays l (m ∷ ks) a s.2))
  ]

  kept_stays : (ks : List (LogIdOf C)) (a : ℕ) → IsKeyList cmp ks → IsKeyList cmp (keys_from ks a)
  kept_stays [] a s = tt
  kept_stays (k ∷ ks) a s = elim (cases_lt a k.index) [
    | inl below ↦ (let t : nat_le k.index a ≡ false = grind (arith, nat_tests) in rw t s)
    | inr past ↦ (let t : nat_le k.index a ≡ true = grind (arith, nat_tests) in rw t (kept_after_stays k ks a s))
  ]

  purge_test : (t : Bool) (ks : List (LogIdOf C)) (upto : LogIdOf C) → IsKeyList cmp ks
      → IsKeyList cmp (if t then upto ∷ [] else keys_from ks upto.index)
  purge_test true ks upto s = tt
  purge_test false ks upto s = kept_stays ks upto.index s

  pub purge_stays : (ks : List (LogIdOf C)) (upto : LogIdOf C) → IsKeyList cmp ks → IsKeyList cmp (keys_after_purge ks upto)
  purge_stays ks upto s = purge_test (nat_le (end_index ks) upto.index) ks upto s

-- the full log of what a purge keeps
pub full_kept_after : {C : Type 0} (k : LogIdOf C) (ks : List (LogIdOf C)) (e a : ℕ) → Rises (k.index + 1) ks e → e ≡ end_index (k ∷ ks)
    → k.index ≤ a → a < e → full_log (rest_from k ks a) ≡ rest (full_log (k ∷ ks)) a
full_kept_after k [] e a r is le lt =
    let n : a + 1 - a ≡ (k.index + 1 - k.index) - (a - k.index) = omega arith in
    let p : max k.index a ≡ a = omega arith in
    sym (filter-append (λ id. nat_le a id.index) (ids_of k.leader_id k.index (k.index + 1 - k.index)) []
    ∙ rw (rest_ids k.leader_id k.index (k.index + 1 - k.index) a, p, ← n) refl)
full_kept_after k (l ∷ ks) e a r is le lt =
    by_place (λ past. full_kept_after l ks e a r.1 is past lt)
    ∙ sym (filter-append (λ id. nat_le a id.index) (ids_of k.leader_id k.index (l.index - k.index)) (full_log (l ∷ ks)))
  where
    by_place : (l.index ≤ a → full_log (rest_from l ks a) ≡ rest (full_log (l ∷ ks)) a)
        → full_log (rest_from k (l ∷ ks) a) ≡ rest (ids_of k.leader_id k.index (l.index - k.index)) a ++ rest (full_log (l ∷ ks)) a
    by_place more = let r0 = r.0 in elim (cases_lt a l.index) [
      | inl below ↦ (let t : nat_le l.index a ≡ false = grind (arith, nat_tests) in
          let n : (l.index - k.index) - (a - k.index) ≡ l.index - a = omega arith in
          let p : max k.index a ≡ a = omega arith in
          let all : rest (full_log (l ∷ ks)) a ≡ full_log (l ∷ ks) =
          rest_above l.index (l ∷ ks) (end_index (l ∷ ks)) a (omega arith, rw is at r.1) (omega arith) in
          rw (t, all, rest_ids k.leader_id k.index (l.index - k.index) a, n, p) refl)
      | inr past ↦ (let t : nat_le l.index a ≡ true = grind (arith, nat_tests) in
          let n : (l.index - k.index) - (a - k.index) ≡ 0 = omega arith in
          rw (t, rest_ids k.leader_id k.index (l.index - k.index) a, n) (more past))
    ]

pub one_key : {C : Type 0} (k : LogIdOf C) → full_log (k ∷ []) ≡ k ∷ []
one_key k = append-nil (ids_of k.leader_id k.index (k.index + 1 - k.index)) ∙ one_id k

-- a full log begins with the first key and ends with the last one
pub full_begins : {C : Type 0} (cmp : C → C → Ordering) (k : LogIdOf C) (ks : List (LogIdOf C)) → IsKeyList cmp (k ∷ ks)
    → (xs : List (LogIdOf C)) × (full_log (k ∷ ks) ≡ k ∷ xs)
full_begins cmp k [] s = ([], one_key k)
full_begins cmp k (l ∷ ks) s =
    let r = key_list_rises cmp k (l ∷ ks) s in
    let r0 = r.0 in
    let n : l.index - k.index ≡ suc (l.index - (k.index + 1)) = omega arith in
    (ids_of k.leader_id (k.index + 1) (l.index - (k.index + 1)) ++ full_log (l ∷ ks), rw n refl)

last_after : {C : Type 0} (xs : List (LogIdOf C)) (y : LogIdOf C) (ys : List (LogIdOf C)) → last_id (xs ++ y ∷ ys) ≡ last_id (y ∷ ys)
last_after [] y ys = refl
last_after (x ∷ []) y ys = refl
last_after (x ∷ z ∷ xs) y ys = last_after (z ∷ xs) y ys

pub last_full : {C : Type 0} (cmp : C → C → Ordering) (ks : List (LogIdOf C)) → IsKeyList cmp ks → last_id (full_log ks) ≡ last_id ks
last_full cmp [] s = refl
last_full cmp (k ∷ []) s = rw (one_id k) refl
last_full cmp (k ∷ l ∷ ks) s =
    let t = tail_keys cmp k l ks s in
    let b = full_begins cmp l ks t in
    let e = last_full cmp (l ∷ ks) t in
    rw b.1 (last_after (ids_of k.leader_id k.index (l.index - k.index)) l b.0 ∙ (rw b.1 at e))

pub next_of_last : {C : Type 0} (ks ls : List (LogIdOf C)) → last_id ks ≡ last_id ls → end_index ks ≡ end_index ls
next_of_last ks ls h = ap next_index h

pub first_full : {C : Type 0} (cmp : C → C → Ordering) (ks : List (LogIdOf C)) → IsKeyList cmp ks
    → first_index (full_log ks) ≡ first_index ks
first_full cmp [] s = refl
first_full cmp (k ∷ ks) s = let b = full_begins cmp k ks s in rw b.1 refl

pub full_purged : {C : Type 0} (cmp : C → C → Ordering) (ks : List (LogIdOf C)) (upto : LogIdOf C) → IsKeyList cmp ks
    → full_log (keys_after_purge ks upto) ≡ log_after_purge (full_log ks) upto
full_purged cmp ks upto s =
    let n = next_of_last (full_log ks) ks (last_full cmp ks s) in
    let f = first_full cmp ks s in
    rw (n, f) (by_test ks s (nat_le (end_index ks) upto.index) refl)
  where
    by_place : (k : LogIdOf _) (ks : List (LogIdOf _)) → IsKeyList cmp (k ∷ ks) → upto.index < end_index (k ∷ ks)
        → full_log (keys_from (k ∷ ks) upto.index)
        ≡ (if nat_lt upto.index k.index then full_log (k ∷ ks) else rest (full_log (k ∷ ks)) upto.index)
    by_place k ks s lt = elim (cases_lt upto.index k.index) [
      | inl below ↦ (let t : nat_le k.index upto.index ≡ false = grind (arith, nat_tests) in
          let u : nat_lt upto.index k.index ≡ true = grind (arith, nat_tests) in rw (t, u) refl)
      | inr past ↦ (let t : nat_le k.index upto.index ≡ true = grind (arith, nat_tests) in
          let u : nat_lt upto.index k.index ≡ false = grind (arith, nat_tests) in
          rw (t, u) (full_kept_after k ks (end_index (k ∷ ks)) upto.index (key_list_rises cmp k ks s) refl past lt))
    ]

    by_test : (ks : List (LogIdOf _)) → IsKeyList cmp ks → (t : Bool) → t ≡ nat_le (end_index ks) upto.index
        → full_log (if t then upto ∷ [] else keys_from ks upto.index)
        ≡ (if t then upto ∷ [] else (if nat_lt upto.index (first_index ks) then full_log ks else rest (full_log ks) upto.index))
    by_test ks s true e = one_key upto
    by_test [] s false e = let t : nat_lt upto.index 0 ≡ false = grind (arith, nat_tests) in rw t refl
    by_test (k ∷ ks) s false e = by_place k ks s (grind (arith, nat_tests))

-- a purge leaves a log from the greater of the two indexes on
kept_first : {C : Type 0} (k : LogIdOf C) (ks : List (LogIdOf C)) (a : ℕ) → first_index (rest_from k ks a) ≡ a
kept_first k [] a = refl
kept_first {C} k (l ∷ ks) a = by_test (nat_le l.index a) (kept_first l ks a)
  where
    by_test : (t : Bool) → first_index (rest_from l ks a) ≡ a
        → first_index (if t then rest_from l ks a else record { leader_id = k.leader_id; index = a } ∷ l ∷ ks) ≡ a
    by_test true e = e
    by_test false e = refl

pub purged_first : {C : Type 0} (cmp : C → C → Ordering) (ks : List (LogIdOf C)) (upto : LogIdOf C) → IsKeyList cmp ks
    → first_index (keys_after_purge ks upto) ≡ max (first_index ks) upto.index
purged_first cmp [] upto s = let t : nat_le 0 upto.index ≡ true = grind (arith, nat_tests) in rw t (omega arith)
purged_first {C} cmp (k ∷ ks) upto s = elim (cases_lt upto.index (end_index (k ∷ ks))) [
  | inr past ↦ (let t : nat_le (end_index (k ∷ ks)) upto.index ≡ true = grind (arith, nat_tests) in
      let up = rises_end 0 (k ∷ ks) (end_index (k ∷ ks)) (key_list_rises_zero cmp (k ∷ ks) s) in
      rw t (omega arith))
  | inl within ↦ (let t : nat_le (end_index (k ∷ ks)) upto.index ≡ false = grind (arith, nat_tests) in
      rw t (elim (cases_lt upto.index k.index) [
        | inl below ↦ (let u : nat_le k.index upto.index ≡ false = grind (arith, nat_tests) in rw u (omega arith))
        | inr from ↦ (let u : nat_le k.index upto.index ≡ true = grind (arith, nat_tests) in
            rw (u, kept_first k ks upto.index) (omega arith))
      ]))
]

-- the edits by position
cut_test : {C : Type 0} (t : Bool) (k l : LogIdOf C) (ks : List (LogIdOf C)) (j n : ℕ) (d : LogIdOf C)
    → (if t then suc (keys_to ks j) else 0) ≡ n → n < suc (length ks)
    → ((m : ℕ) → keys_to ks j ≡ m → m < length ks → rest_up_to l ks j ≡ take m ks ++ end_at (get_or (l ∷ ks) m d) j)
    → (if t then l ∷ rest_up_to l ks j else end_at k j) ≡ take n (l ∷ ks) ++ end_at (get_or (k ∷ l ∷ ks) n d) j
cut_test true k l ks j zero d e lt ih = absurd (omega arith)
cut_test true k l ks j (suc m) d e lt ih = ap (λ (r : List (LogIdOf _)). l ∷ r) (ih m (omega arith) (omega arith))
cut_test false k l ks j zero d e lt ih = refl
cut_test false k l ks j (suc m) d e lt ih = absurd (omega arith)

cut_place : {C : Type 0} (k : LogIdOf C) (ks : List (LogIdOf C)) (j n : ℕ) (d : LogIdOf C) → keys_to ks j ≡ n → n < length ks
    → rest_up_to k ks j ≡ take n ks ++ end_at (get_or (k ∷ ks) n d) j
cut_place k [] j n d e lt = absurd (omega arith)
cut_place k (l ∷ ks) j n d e lt = cut_test (nat_le l.index j) k l ks j n d e lt (λ m e lt. cut_place l ks j m d e lt)

first_test : {C : Type 0} (t : Bool) (k : LogIdOf C) (ks : List (LogIdOf C)) (j n : ℕ) (d : LogIdOf C)
    → (if t then suc (keys_to ks j) else 0) ≡ suc n → n < length ks
    → (if t then k ∷ rest_up_to k ks j else []) ≡ take (suc n) (k ∷ ks) ++ end_at (get_or (k ∷ ks) n d) j
first_test true k ks j n d e lt = ap (λ (r : List (LogIdOf _)). k ∷ r) (cut_place k ks j n d (omega arith) lt)
first_test false k ks j n d e lt = absurd (omega arith)

pub cut_at : {C : Type 0} (ks : List (LogIdOf C)) (j n : ℕ) (d : LogIdOf C) → keys_to ks j ≡ suc n → suc n < length ks
    → keys_up_to ks j ≡ take (suc n) ks ++ end_at (get_or ks n d) j
cut_at [] j n d e lt = absurd (omega arith)
cut_at (k ∷ ks) j n d e lt = first_test (nat_le k.index j) k ks j n d e (omega arith)

cut_after_all : {C : Type 0} (k : LogIdOf C) (ks : List (LogIdOf C)) (j : ℕ) → keys_to ks j ≡ length ks → rest_up_to k ks j ≡ ks
cut_after_all k [] j h = refl
cut_after_all k (l ∷ ks) j h = step (λ e. cut_after_all l ks j e) (nat_le l.index j) h
  where
    step : (keys_to ks j ≡ length ks → rest_up_to l ks j ≡ ks) → (t : Bool) → (if t then suc (keys_to ks j) else 0) ≡ suc (length ks)
        → (if t then l ∷ rest_up_to l ks j else end_at k j) ≡ l ∷ ks
    step more true e = ap (λ (r : List (LogIdOf _)). l ∷ r) (more (omega arith))
    step more false e = absurd (omega arith)

pub cut_all : {C : Type 0} (ks : List (LogIdOf C)) (j : ℕ) → keys_to ks j ≡ length ks → keys_up_to ks j ≡ ks
cut_all [] j h = refl
cut_all (k ∷ ks) j h = step (nat_le k.index j) h
  where
    step : (t : Bool) → (if t then suc (keys_to ks j) else 0) ≡ suc (length ks) → (if t then k ∷ rest_up_to k ks j else []) ≡ k ∷ ks
    step true e = ap (λ (r : List (LogIdOf _)). k ∷ r) (cut_after_all k ks j (omega arith))
    step false e = absurd (omega arith)

kept_place : {C : Type 0} (k : LogIdOf C) (ks : List (LogIdOf C)) (j n : ℕ) (d : LogIdOf C) → keys_to ks j ≡ n
    → rest_from k ks j ≡ (let x : LogIdOf C = record { leader_id = (get_or (k ∷ ks) n d).leader_id; index = j } in x) ∷ drop n ks
kept_place k [] j zero d e = refl
kept_place k [] j (suc n) d e = absurd (omega arith)
kept_place {C} k (l ∷ ks) j n d e = step (λ m e. kept_place l ks j m d e) (nat_le l.index j) n e
  where
    step : ((m : ℕ) → keys_to ks j ≡ m → rest_from l ks j
        ≡ (let x : LogIdOf C = record { leader_id = (get_or (l ∷ ks) m d).leader_id; index = j } in x) ∷ drop m ks) → (t : Bool) (n : ℕ)
        → (if t then suc (keys_to ks j) else 0) ≡ n
        → (if t then rest_from l ks j else record { leader_id = k.leader_id; index = j } ∷ l ∷ ks)
        ≡ (let x : LogIdOf C = record { leader_id = (get_or (k ∷ l ∷ ks) n d).leader_id; index = j } in x) ∷ drop n (l ∷ ks)
    step more true zero e = absurd (omega arith)
    step more true (suc n) e = more n (omega arith)
    step more false zero e = refl
    step more false (suc n) e = absurd (omega arith)

pub kept_at : {C : Type 0} (ks : List (LogIdOf C)) (j n : ℕ) (key : LogIdOf C) → keys_to ks j ≡ suc n → key ≡ get_or ks n key
    → keys_from ks j ≡ (let x : LogIdOf C = record { leader_id = key.leader_id; index = j } in x) ∷ drop (suc n) ks
kept_at [] j n key e place = absurd (omega arith)
kept_at {C} (k ∷ ks) j n key e place = rw (← place) at (step (nat_le k.index j) e)
  where
    step : (t : Bool) → (if t then suc (keys_to ks j) else 0) ≡ suc n
        → (if t then rest_from k ks j else k ∷ ks)
        ≡ (let x : LogIdOf C = record { leader_id = (get_or (k ∷ ks) n key).leader_id; index = j } in x) ∷ drop (suc n) (k ∷ ks)
    step true e = kept_place k ks j n key (omega arith)
    step false e = absurd (omega arith)

pub kept_all : {C : Type 0} (ks : List (LogIdOf C)) (j : ℕ) → keys_to ks j ≡ 0 → keys_from ks j ≡ ks
kept_all [] j h = refl
kept_all (k ∷ ks) j h = step (nat_le k.index j) h
  where
    step : (t : Bool) → (if t then suc (keys_to ks j) else 0) ≡ 0 → (if t then rest_from k ks j else k ∷ ks) ≡ k ∷ ks
    step true e = absurd (omega arith)
    step false e = refl

-- the first and the last key are the first and the last id
pub first_is : {C : Type 0} (cmp : C → C → Ordering) (ks : List (LogIdOf C)) → IsKeyList cmp ks → slice_get ks 0 ≡ first_id (full_log ks)
first_is cmp [] s = refl
first_is cmp (k ∷ ks) s = let b = full_begins cmp k ks s in rw b.1 refl

pub last_place : {C : Type 0} (ks : List (LogIdOf C)) → slice_get ks (length ks - 1) ≡ last_id ks
last_place [] = refl
last_place (k ∷ []) = refl
last_place (k ∷ l ∷ ks) = let e : length (k ∷ l ∷ ks) - 1 ≡ suc (length (l ∷ ks) - 1) = omega arith in rw e (last_place (l ∷ ks))

pub last_is : {C : Type 0} (cmp : C → C → Ordering) (ks : List (LogIdOf C)) → IsKeyList cmp ks
    → slice_get ks (length ks - 1) ≡ last_id (full_log ks)
last_is cmp ks s = last_place ks ∙ sym (last_full cmp ks s)

-- the last two keys, by position
few_last : {C : Type 0} (eq : C → C → Bool) (ks : List (LogIdOf C)) → length ks < 2 → ks ≡ by_last_leader eq ks
few_last eq [] lt = refl
few_last eq (k ∷ []) lt = refl
few_last eq (k ∷ l ∷ ks) lt = absurd (omega arith)

pub fewer : {C : Type 0} (eq : C → C → Bool) (ks : List (LogIdOf C)) → length ks < 2 → ks ≡ by_last_leader eq ks
fewer eq ks lt = few_last eq ks lt

pub last_two : {C : Type 0} (eq : C → C → Bool) (ks : List (LogIdOf C)) (n : ℕ) (x y : LogIdOf C) (t : Bool) → length ks ≡ suc (suc n)
    → eq (get_or ks n x).leader_id (get_or ks (suc n) y).leader_id ≡ t → by_last_leader eq ks ≡ (if t then drop n ks else drop (suc n) ks)
last_two eq [] n x y t len e = absurd (omega arith)
last_two eq (k ∷ []) n x y t len e = absurd (omega arith)
last_two eq (k ∷ l ∷ []) zero x y t len e = rw e refl
last_two eq (k ∷ l ∷ []) (suc n) x y t len e = absurd (omega arith)
last_two eq (k ∷ l ∷ m ∷ ks) zero x y t len e = absurd (omega arith)
last_two eq (k ∷ l ∷ m ∷ ks) (suc n) x y t len e = last_two eq (l ∷ m ∷ ks) n x y t (omega arith) e

-- the calls' edits: n keys are not past the last index that stays
below_by_last : {C : Type 0} (ks : List (LogIdOf C)) (a : ℕ) → (a ≡ 0 → ⊥) → keys_below ks a ≡ keys_up_to ks (a - 1)
below_by_last ks zero some = absurd (some refl)
below_by_last ks (suc j) some = let e : suc j - 1 ≡ j = omega arith in rw e refl

before : (n : ℕ) → (n ≡ 0 → ⊥) → (m : ℕ) × (n ≡ suc m)
before zero some = absurd (some refl)
before (suc m) some = (m, refl)

pub all_keys_stay : {C : Type 0} (ks : List (LogIdOf C)) (a n : ℕ) → (a ≡ 0 → ⊥) → n ≡ keys_to ks (a - 1) → n ≡ length ks
    → ks ≡ keys_below ks a
all_keys_stay ks a n some count len = sym (below_by_last ks a some ∙ cut_all ks (a - 1) (sym count ∙ len))

some_keys_stay : {C : Type 0} (ks : List (LogIdOf C)) (a n : ℕ) (key : LogIdOf C) → (a ≡ 0 → ⊥) → n ≡ keys_to ks (a - 1) → (n ≡ 0 → ⊥)
    → n < length ks → key ≡ get_or ks (n - 1) key → keys_below ks a ≡ take n ks ++ end_at key (a - 1)
some_keys_stay {C} ks a n key some count kept lt place =
    let b = before n kept in
    let one : n - 1 ≡ b.0 = let e = b.1 in omega arith in
    let here : key ≡ get_or ks b.0 key = subst (λ (q : ℕ). key ≡ get_or ks q key) one place in
    let at = cut_at ks (a - 1) b.0 key (sym count ∙ b.1) (let e = b.1 in omega arith) in
    below_by_last ks a some ∙ subst (λ (x : LogIdOf C). keys_up_to ks (a - 1) ≡ take n ks ++ end_at x (a - 1)) (sym here) (rw (← b.1) at at)

pub cut_short : {C : Type 0} (ks : List (LogIdOf C)) (a n : ℕ) (key : LogIdOf C) → (a ≡ 0 → ⊥) → n ≡ keys_to ks (a - 1) → (n ≡ 0 → ⊥)
    → n < length ks → key ≡ get_or ks (n - 1) key → a - 1 ≤ key.index → take n ks ≡ keys_below ks a
cut_short ks a n key some count kept lt place le =
    let t : nat_lt key.index (a - 1) ≡ false = grind (arith, nat_tests) in
    sym (some_keys_stay ks a n key some count kept lt place ∙ rw t (append-nil (take n ks)))

pub cut_moved : {C : Type 0} (ks : List (LogIdOf C)) (a n : ℕ) (key : LogIdOf C) → (a ≡ 0 → ⊥) → n ≡ keys_to ks (a - 1) → (n ≡ 0 → ⊥)
    → n < length ks → key ≡ get_or ks (n - 1) key → key.index < a - 1
    → take (n + 1) (set ks n (record { leader_id = key.leader_id; index = a - 1 })) ≡ keys_below ks a
cut_moved {C} ks a n key some count kept lt place less =
    let t : nat_lt key.index (a - 1) ≡ true = grind (arith, nat_tests) in
    take_more_set ks n (record { leader_id = key.leader_id; index = a - 1 }) lt
    ∙ sym (some_keys_stay ks a n key some count kept lt place ∙ rw t refl)

pub next_at : {C : Type 0} (ks : List (LogIdOf C)) (key : LogIdOf C) → 0 < length ks → key ≡ get_or ks (length ks - 1) key
    → end_index ks ≡ key.index + 1
next_at [] key lt place = absurd (omega arith)
next_at {C} (k ∷ ks) key lt place =
    let e : length (k ∷ ks) - 1 ≡ length ks = omega arith in
    next_by_place k ks key ∙ ap (λ (x : LogIdOf C). x.index + 1) (sym (subst (λ (q : ℕ). key ≡ get_or (k ∷ ks) q key) e place))

pub purged_past : {C : Type 0} (ks : List (LogIdOf C)) (upto key : LogIdOf C) → 0 < length ks → key ≡ get_or ks (length ks - 1) key
    → key.index < upto.index → set (take 1 ks) 0 upto ≡ keys_after_purge ks upto
purged_past [] upto key some place lt = absurd (omega arith)
purged_past (k ∷ ks) upto key some place lt =
    let n = next_at (k ∷ ks) key some place in
    let t : nat_le (end_index (k ∷ ks)) upto.index ≡ true = grind (arith, nat_tests, n) in rw t refl

purged_within : {C : Type 0} (ks : List (LogIdOf C)) (upto key : LogIdOf C) → 0 < length ks → key ≡ get_or ks (length ks - 1) key
    → upto.index ≤ key.index → keys_after_purge ks upto ≡ keys_from ks upto.index
purged_within ks upto key some place le =
    let n = next_at ks key some place in
    let t : nat_le (end_index ks) upto.index ≡ false = grind (arith, nat_tests, n) in rw t refl

pub purged_none : {C : Type 0} (ks : List (LogIdOf C)) (upto key : LogIdOf C) (n : ℕ) → 0 < length ks → key ≡ get_or ks (length ks - 1) key
    → upto.index ≤ key.index → n ≡ keys_to ks upto.index → n ≡ 0 → ks ≡ keys_after_purge ks upto
purged_none ks upto key n some place le count none =
    sym (purged_within ks upto key some place le ∙ kept_all ks upto.index (sym count ∙ none))

pub purged_moved : {C : Type 0} (ks : List (LogIdOf C)) (upto key first : LogIdOf C) (n : ℕ) → 0 < length ks
    → key ≡ get_or ks (length ks - 1) key → upto.index ≤ key.index → n ≡ keys_to ks upto.index → (n ≡ 0 → ⊥) → n ≤ length ks
    → first ≡ get_or ks (n - 1) first
    → set (take (length ks - (n - 1)) (drop (n - 1) ks ++ take (n - 1) ks)) 0 (record { leader_id = first.leader_id; index = upto.index })
    ≡ keys_after_purge ks upto
purged_moved {C} ks upto key first n some place le count kept bound here =
    let b = before n kept in
    let one : n - 1 ≡ b.0 = let e = b.1 in omega arith in
    let at : first ≡ get_or ks b.0 first = subst (λ (q : ℕ). first ≡ get_or ks q first) one here in
    let rest_is : take (length ks - (n - 1)) (drop (n - 1) ks ++ take (n - 1) ks) ≡ drop (n - 1) ks =
    take_at (drop (n - 1) ks) (take (n - 1) ks) (length ks - (n - 1)) (omega (arith, length-drop (n - 1) ks)) in
    let cons : drop b.0 ks ≡ get_or ks b.0 first ∷ drop (suc b.0) ks = drop-cons ks b.0 first (let e = b.1 in omega arith) in
    rw (rest_is, one, cons) (sym (purged_within ks upto key some place le ∙ kept_at ks upto.index b.0 first (sym count ∙ b.1) at))

-- a prefix of a prefix is the shorter prefix
pub front_twice : {C : Type 0} (log : List (LogIdOf C)) (a : ℕ) → front (front log a) a ≡ front log a
front_twice [] a = refl
front_twice (k ∷ ks) a = by_test (nat_lt k.index a) refl (front_twice ks a)
  where
    by_test : (t : Bool) → nat_lt k.index a ≡ t → front (front ks a) a ≡ front ks a
        → front (if t then k ∷ front ks a else front ks a) a ≡ (if t then k ∷ front ks a else front ks a)
    by_test true e rest_same = rw (e, rest_same) refl
    by_test false e rest_same = rest_same
