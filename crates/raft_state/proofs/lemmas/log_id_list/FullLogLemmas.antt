-- Look-ups in a full log.
use Rattle.std.proofs.Common.{◌≡◌, ℕ, zero, suc, ◌+◌, ◌-◌, ◌<◌, ◌≤◌, ◌==◌, ◌&&◌, Bool, true, false, cond, List, [], ◌∷◌, Option, Some, None, find, if◌then◌else◌, nat_lt, nat_le, refl, subst, sym, ◌∙◌, arith, length, get_or}
use Rattle.std.proofs.lemmas.Bool.{cases_lt}
use Rattle.std.proofs.Common.{◌⊎◌, inl, inr}
use Rattle.std.specs.Option.{is_some, option_or, option_map}
use Rattle.std.specs.declared.cmp.Ordering.{Ordering}
use Rattle.std.proofs.lemmas.List.Folds.{find-append}
use Rattle.std.proofs.lemmas.Bool.Decides.{nat_tests}
use Rattle.raft_base.specs.declared.log_id.LogIdOf.{LogIdOf}
use Rattle.raft_state.specs.log_id_list.FullLog.{end_index, ids_of_keys, first_index, first_index_or, full_log, ids_of}
use Rattle.raft_state.specs.Inner.KeyList.{Rises, keys_to}
use Rattle.raft_state.proofs.lemmas.log_id_list.KeyListLemmas.{IsKeyList}
use Rattle.raft_state.specs.log_id_list.LogReads.{id_at}

-- the last key whose index is not greater than j
abbrev pub covering : {C : Type 0} → List (LogIdOf C) → ℕ → Option (LogIdOf C)
covering [] j = None
covering (k ∷ ks) j = if nat_le k.index j then option_or (covering ks j) (Some k) else None

-- a key list's indexes rise from the first one, below the index after the last one
pub key_list_rises : {C : Type 0} (cmp : C → C → Ordering) (k : LogIdOf C) (ks : List (LogIdOf C)) → IsKeyList cmp (k ∷ ks)
    → Rises (k.index + 1) ks (end_index (k ∷ ks))
key_list_rises cmp k [] s = omega arith
key_list_rises cmp k (l ∷ []) s = (omega arith, omega arith)
key_list_rises cmp k (l ∷ m ∷ ks) s = (omega arith, key_list_rises cmp l (m ∷ ks) s.2)

pub rises_first : {C : Type 0} (b : ℕ) (ks : List (LogIdOf C)) (e : ℕ) → Rises b ks e → b ≤ first_index_or ks e
rises_first b [] e r = r
rises_first b (k ∷ ks) e r = r.0

pub rises_end : {C : Type 0} (b : ℕ) (ks : List (LogIdOf C)) (e : ℕ) → Rises b ks e → first_index_or ks e ≤ e
rises_end b [] e r = omega arith
rises_end b (k ∷ ks) e r = let f = rises_first (k.index + 1) ks e r.1 in let g = rises_end (k.index + 1) ks e r.1 in omega arith

-- ids of one leader: the id at an index within, and none outside
pub ids_within : {C : Type 0} (c : C) (i n j : ℕ) → i ≤ j → j < i + n
    → find (λ (id : LogIdOf C). id.index == j) (ids_of c i n) ≡ Some (record { leader_id = c; index = j })
ids_within c i zero j le lt = absurd (omega arith)
ids_within c i (suc n) j le lt = grind (arith, nat_tests, ids_within c (i + 1) n j)

pub ids_below : {C : Type 0} (c : C) (i n j : ℕ) → j < i → find (λ (id : LogIdOf C). id.index == j) (ids_of c i n) ≡ None
ids_below c i zero j lt = refl
ids_below c i (suc n) j lt = grind (arith, nat_tests, ids_below c (i + 1) n j)

pub ids_above : {C : Type 0} (c : C) (i n j : ℕ) → i + n ≤ j → find (λ (id : LogIdOf C). id.index == j) (ids_of c i n) ≡ None
ids_above c i zero j le = refl
ids_above c i (suc n) j le = grind (arith, nat_tests, ids_above c (i + 1) n j)

pub covering_below : {C : Type 0} (ks : List (LogIdOf C)) (j : ℕ) (e : ℕ) → j < first_index_or ks e → covering ks j ≡ None
covering_below [] j e h = refl
covering_below (k ∷ ks) j e h = grind (arith, nat_tests)

or_some : {A : Type 0} (o : Option A) (x y : A) → option_or (option_or o (Some x)) (Some y) ≡ option_or o (Some x)
or_some None x y = refl
or_some (Some z) x y = refl

-- past the first of these keys or the end, an earlier key covers nothing
past_first : {C : Type 0} (ks : List (LogIdOf C)) (j e : ℕ) (k : LogIdOf C) → first_index_or ks e ≤ j
    → (e ≤ j) ⊎ (option_or (covering ks j) (Some k) ≡ covering ks j)
past_first [] j e k h = inl h
past_first (l ∷ ls) j e k h = inr (let o = or_some (covering ls j) l k in grind (arith, nat_tests))

-- the id at an index has the leader of the last key that is not past it
pub at_filled : {C : Type 0} (b : ℕ) (ks : List (LogIdOf C)) (e j : ℕ) → Rises b ks e
    → id_at (ids_of_keys ks e) j ≡ (if nat_lt j e then option_map
    (λ (k : LogIdOf C). let id : LogIdOf C = record { leader_id = k.leader_id; index = j } in id) (covering ks j) else None)
at_filled {C} b [] e j r = grind (arith, nat_tests)
at_filled {C} b (k ∷ ks) e j r =
    let f = rises_first (k.index + 1) ks e r.1 in
    let g = rises_end (k.index + 1) ks e r.1 in
    let ih = at_filled (k.index + 1) ks e j r.1 in
    let n = first_index_or ks e - k.index in
    rw (find-append (λ (id : LogIdOf C). id.index == j) (ids_of k.leader_id k.index n) (ids_of_keys ks e))
    (elim (cases_lt j k.index) [
      | inl below ↦ (let none : find (λ (id : LogIdOf C). id.index == j) (ids_of k.leader_id k.index n) ≡ None =
          ids_below k.leader_id k.index n j below in
          let gone : covering ks j ≡ None = covering_below ks j e (omega arith) in grind (arith, nat_tests))
      | inr reached ↦ elim (cases_lt j (first_index_or ks e)) [
        | inl within ↦ (let some : find (λ (id : LogIdOf C). id.index == j) (ids_of k.leader_id k.index n)
            ≡ Some (record { leader_id = k.leader_id; index = j }) = ids_within k.leader_id k.index n j reached (omega arith) in
            let gone : covering ks j ≡ None = covering_below ks j e within in grind (arith, nat_tests))
        | inr past ↦ (let none : find (λ (id : LogIdOf C). id.index == j) (ids_of k.leader_id k.index n) ≡ None =
            ids_above k.leader_id k.index n j (omega arith) in
            let same = past_first ks j e k past in grind (arith, nat_tests))
      ]
    ])

-- the key before position n
abbrev pub key_before : {C : Type 0} → List (LogIdOf C) → ℕ → LogIdOf C → Option (LogIdOf C)
key_before ks zero d = None
key_before ks (suc m) d = Some (get_or ks m d)

cover_step : {C : Type 0} (n : ℕ) (k : LogIdOf C) (ks : List (LogIdOf C)) (d : LogIdOf C)
    → option_or (key_before ks n d) (Some k) ≡ Some (get_or (k ∷ ks) n d)
cover_step zero k ks d = refl
cover_step (suc m) k ks d = refl

cover_test : {C : Type 0} (t : Bool) (n : ℕ) (o : Option (LogIdOf C)) (k : LogIdOf C) (ks : List (LogIdOf C)) (d : LogIdOf C)
    → o ≡ key_before ks n d → (if t then option_or o (Some k) else None) ≡ key_before (k ∷ ks) (if t then suc n else 0) d
cover_test true n o k ks d e = rw e (cover_step n k ks d)
cover_test false n o k ks d e = refl

-- the key that covers an index comes directly before the first key past it
pub covering_at : {C : Type 0} (ks : List (LogIdOf C)) (j : ℕ) (d : LogIdOf C) → covering ks j ≡ key_before ks (keys_to ks j) d
covering_at [] j d = refl
covering_at (k ∷ ks) j d = cover_test (nat_le k.index j) (keys_to ks j) (covering ks j) k ks d (covering_at ks j d)

rising_from : {C : Type 0} (b : ℕ) (ks : List (LogIdOf C)) (e m : ℕ) (d : LogIdOf C) → Rises b ks e → m < length ks
    → b ≤ (get_or ks m d).index
rising_from b [] e m d r lt = absurd (omega arith)
rising_from b (k ∷ ks) e zero d r lt = r.0
rising_from b (k ∷ ks) e (suc m) d r lt = let h = rising_from (k.index + 1) ks e m d r.1 (omega arith) in omega arith

-- no more keys are counted than there are
pub counts_within : {C : Type 0} (ks : List (LogIdOf C)) (j : ℕ) → keys_to ks j ≤ length ks
counts_within [] j = omega arith
counts_within (k ∷ ks) j = let h = counts_within ks j in grind (arith, nat_tests)

-- a key is not past j exactly if its position is below the count
pub counted_by_place : {C : Type 0} (b : ℕ) (ks : List (LogIdOf C)) (e j m : ℕ) (d : LogIdOf C) → Rises b ks e → m < length ks
    → nat_le (get_or ks m d).index j ≡ nat_lt m (keys_to ks j)
counted_by_place b [] e j m d r lt = absurd (omega arith)
counted_by_place b (k ∷ ks) e j zero d r lt = grind (arith, nat_tests)
counted_by_place b (k ∷ ks) e j (suc m) d r lt =
    let h = rising_from (k.index + 1) ks e m d r.1 (omega arith) in
    let ih = counted_by_place (k.index + 1) ks e j m d r.1 (omega arith) in
    grind (arith, nat_tests)

none_step : {C : Type 0} (t : Bool) (n : ℕ) (o : Option (LogIdOf C)) (k : LogIdOf C) → (if t then suc n else 0) ≡ 0
    → (if t then option_or o (Some k) else None) ≡ None
none_step true n o k h = absurd (omega arith)
none_step false n o k h = refl

pub covering_none : {C : Type 0} (ks : List (LogIdOf C)) (j : ℕ) → keys_to ks j ≡ 0 → covering ks j ≡ None
covering_none [] j h = refl
covering_none (k ∷ ks) j h = none_step (nat_le k.index j) (keys_to ks j) (covering ks j) k h

-- some key past j: j is below the end
pub below_end : {C : Type 0} (b : ℕ) (ks : List (LogIdOf C)) (e j : ℕ) → Rises b ks e → keys_to ks j < length ks → j < e
below_end b [] e j r h = absurd (omega arith)
below_end b (k ∷ ks) e j r h = let g = rises_end b (k ∷ ks) e r in let q = below_end (k.index + 1) ks e j r.1 in grind (arith, nat_tests)

-- the index after the last one, by position
pub next_by_place : {C : Type 0} (k : LogIdOf C) (ks : List (LogIdOf C)) (d : LogIdOf C)
    → end_index (k ∷ ks) ≡ (get_or (k ∷ ks) (length ks) d).index + 1
next_by_place k [] d = refl
next_by_place k (l ∷ ks) d = next_by_place l ks d

pub key_list_rises_zero : {C : Type 0} (cmp : C → C → Ordering) (ks : List (LogIdOf C)) → IsKeyList cmp ks → Rises 0 ks (end_index ks)
key_list_rises_zero cmp [] s = omega arith
key_list_rises_zero cmp (k ∷ ks) s = (omega arith, key_list_rises cmp k ks s)

-- the id of the full log at an index below its end, and none past it
pub at_full : {C : Type 0} (cmp : C → C → Ordering) (ks : List (LogIdOf C)) (j : ℕ) → IsKeyList cmp ks
    → id_at (full_log ks) j ≡ (if nat_lt j (end_index ks) then option_map
    (λ (k : LogIdOf C). let id : LogIdOf C = record { leader_id = k.leader_id; index = j } in id) (covering ks j) else None)
at_full cmp ks j s = at_filled 0 ks (end_index ks) j (key_list_rises_zero cmp ks s)

cond_same : {A : Type 0} (b : Bool) (x : A) → cond b x x ≡ x
cond_same true x = refl
cond_same false x = refl

pub none_here : {C : Type 0} (cmp : C → C → Ordering) (ks : List (LogIdOf C)) (j : ℕ) → IsKeyList cmp ks → keys_to ks j ≡ 0
    → id_at (full_log ks) j ≡ None
none_here cmp ks j s h = rw (at_full cmp ks j s, covering_none ks j h) (cond_same (nat_lt j (end_index ks)) None)

pub none_past : {C : Type 0} (cmp : C → C → Ordering) (ks : List (LogIdOf C)) (j : ℕ) (d : LogIdOf C) → IsKeyList cmp ks → 0 < length ks
    → (get_or ks (length ks - 1) d).index < j → id_at (full_log ks) j ≡ None
none_past cmp [] j d s l h = absurd (omega arith)
none_past cmp (k ∷ ks) j d s l h = let n = next_by_place k ks d in let test : nat_lt j (end_index (k ∷ ks)) ≡ false =
    grind (arith, nat_tests) in rw (at_full cmp (k ∷ ks) j s, test) refl

pub some_here : {C : Type 0} (cmp : C → C → Ordering) (ks : List (LogIdOf C)) (j n : ℕ) (d : LogIdOf C) → IsKeyList cmp ks
    → keys_to ks j ≡ suc n → j < end_index ks → id_at (full_log ks) j ≡ Some (record { leader_id = (get_or ks n d).leader_id; index = j })
some_here cmp ks j n d s h lt = let test : nat_lt j (end_index ks) ≡ true = grind (arith, nat_tests) in
    rw (at_full cmp ks j s, test, covering_at ks j d, h) refl

-- with all keys counted and the last one not below j, or with some key past j, j is below the end
pub below_next : {C : Type 0} (cmp : C → C → Ordering) (ks : List (LogIdOf C)) (j : ℕ) (d : LogIdOf C) → IsKeyList cmp ks → 0 < length ks
    → keys_to ks j ≤ length ks → ((keys_to ks j ≡ length ks) × (j ≤ (get_or ks (length ks - 1) d).index)) ⊎ (keys_to ks j ≡ length ks → ⊥)
    → j < end_index ks
below_next cmp [] j d s l b h = absurd (omega arith)
below_next cmp (k ∷ ks) j d s l b (inl h) = let n = next_by_place k ks d in let h1 = h.1 in grind (arith, n, h1)
below_next cmp (k ∷ ks) j d s l b (inr h) = below_end 0 (k ∷ ks) _ j (key_list_rises_zero cmp (k ∷ ks) s) (omega arith)

-- the result of a look-up from the count of keys that are not past j
pub some_found : {C : Type 0} (cmp : C → C → Ordering) (ks : List (LogIdOf C)) (j n : ℕ) (key : LogIdOf C) → IsKeyList cmp ks → (n ≡ 0 → ⊥)
    → n ≤ length ks → n ≡ keys_to ks j → key ≡ get_or ks (n - 1) key → ((n ≡ length ks) × (j ≤ key.index)) ⊎ (n ≡ length ks → ⊥)
    → id_at (full_log ks) j ≡ Some (record { leader_id = key.leader_id; index = j })
some_found {C} cmp ks j zero key s some b e place h = absurd (some refl)
some_found {C} cmp ks j (suc n) key s some b e place h =
    let one : suc n - 1 ≡ n = omega arith in
    let here : key ≡ get_or ks n key = subst (λ (q : ℕ). key ≡ get_or ks q key) one place in
    let last : ((keys_to ks j ≡ length ks) × (j ≤ (get_or ks (length ks - 1) key).index)) ⊎ (keys_to ks j ≡ length ks → ⊥) = elim h [
      | inl both ↦ inl (sym e ∙ both.0, rw (← both.0, ← place) both.1)
      | inr below ↦ inr (λ q. below (e ∙ q))
    ] in
    let below = below_next cmp ks j key s (omega arith) (omega arith) last in
    rw (← here) at (some_here cmp ks j n key s (sym e) below)

-- the last of the keys that are not past j is not, and the next key is
pub last_counted : {C : Type 0} (cmp : C → C → Ordering) (ks : List (LogIdOf C)) (j n : ℕ) (key : LogIdOf C) → IsKeyList cmp ks
    → (n ≡ 0 → ⊥) → n ≤ length ks → n ≡ keys_to ks j → key ≡ get_or ks (n - 1) key → key.index ≤ j
last_counted cmp ks j n key s some b counted place =
    let here = rw (← place) at (counted_by_place 0 ks _ j (n - 1) key (key_list_rises_zero cmp ks s) (omega arith)) in
    grind (arith, nat_tests)

pub next_past : {C : Type 0} (cmp : C → C → Ordering) (ks : List (LogIdOf C)) (j n : ℕ) (key : LogIdOf C) → IsKeyList cmp ks
    → n < length ks → n ≡ keys_to ks j → j < (get_or ks n key).index
next_past cmp ks j n key s more counted =
    let here = counted_by_place 0 ks _ j n key (key_list_rises_zero cmp ks s) more in
    grind (arith, nat_tests)

-- from a key on, up to before the next key or to the last one, the log ids are of its leader
pub one_leader_from_key : {C : Type 0} (cmp : C → C → Ordering) (ks : List (LogIdOf C)) (n last i : ℕ) (key : LogIdOf C)
    → IsKeyList cmp ks → (n ≡ 0 → ⊥) → n ≤ length ks → key ≡ get_or ks (n - 1) key
    → ((next : LogIdOf C) × (n < length ks) × (last < (get_or ks n next).index)) ⊎ ((length ks ≤ n) × (last ≡ key.index))
    → key.index ≤ i → i ≤ last
    → id_at (full_log ks) i ≡ Some (record { leader_id = key.leader_id; index = i })
one_leader_from_key {C} cmp ks n last i key s some b place next from to =
    let rises = key_list_rises_zero cmp ks s in
    let here = rw (← place) at (counted_by_place 0 ks _ i (n - 1) key rises (omega arith)) in
    let within = counts_within ks i in
    elim next [
      | inl before ↦ (
          let end = counted_by_place 0 ks _ i n before.0 rises before.1 in
          let past = before.2 in
          let more = before.1 in
          let counted : n ≡ keys_to ks i = grind (arith, nat_tests) in
          some_found cmp ks i n key s some b counted place (inr (λ all. omega arith)))
      | inr last_one ↦ (
          let all = last_one.0 in
          let is = last_one.1 in
          let counted : n ≡ keys_to ks i = grind (arith, nat_tests) in
          some_found cmp ks i n key s some b counted place (inl (omega arith, omega arith)))
    ]

-- a key covers each index from the first on
pub covers : {C : Type 0} (k : LogIdOf C) (ks : List (LogIdOf C)) (j : ℕ) → k.index ≤ j → (c : LogIdOf C) × (covering (k ∷ ks) j ≡ Some c)
covers {C} k ks j le = let t : nat_le k.index j ≡ true = grind (arith, nat_tests) in let q = either (covering ks j) in (q.0, rw t q.1)
  where
    either : (o : Option (LogIdOf C)) → (c : LogIdOf C) × (option_or o (Some k) ≡ Some c)
    either None = (k, refl)
    either (Some c) = (c, refl)

pub covers_none : {C : Type 0} (k : LogIdOf C) (ks : List (LogIdOf C)) (j : ℕ) → j < k.index → covering (k ∷ ks) j ≡ None
covers_none k ks j lt = let t : nat_le k.index j ≡ false = grind (arith, nat_tests) in rw t refl

found_if : {A : Type 0} (t : Bool) (x : A) → is_some (if t then Some x else None) ≡ t
found_if true x = refl
found_if false x = refl

-- an index has a log id exactly from the first key's index to the last key's
pub found_within : {C : Type 0} (cmp : C → C → Ordering) (ks : List (LogIdOf C)) (j : ℕ) → IsKeyList cmp ks
    → is_some (id_at (full_log ks) j) ≡ (nat_le (first_index ks) j && nat_lt j (end_index ks))
found_within cmp [] j s = grind (arith, nat_tests)
found_within {C} cmp (k ∷ ks) j s = elim (cases_lt j k.index) [
  | inl below ↦ (let t : nat_le k.index j ≡ false = grind (arith, nat_tests) in
      rw (at_full cmp (k ∷ ks) j s, covers_none k ks j below, cond_same {A = Option (LogIdOf C)} (nat_lt j (end_index (k ∷ ks))) None, t)
      refl)
  | inr past ↦ (let t : nat_le k.index j ≡ true = grind (arith, nat_tests) in
      let c = covers k ks j past in
      let id : LogIdOf C = record { leader_id = c.0.leader_id; index = j } in
      rw (at_full cmp (k ∷ ks) j s, c.1, t) (found_if (nat_lt j (end_index (k ∷ ks))) id))
]
