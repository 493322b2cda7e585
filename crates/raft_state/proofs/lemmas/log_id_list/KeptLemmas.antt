-- What an edit of a log keeps: the log id at each index, the last one and the end.
use Rattle.std.proofs.Common.{◌≡◌, ℕ, zero, suc, ◌+◌, ◌-◌, ◌<◌, ◌≤◌, ◌==◌, min, max, Bool, true, false, List, [], ◌∷◌, ◌++◌, Option, Some, None, if◌then◌else◌, IsTrue, length, nat_lt, nat_le, refl, sym, ap, subst, arith, inl, inr, ◌∙◌}
use Rattle.std.specs.Prelude.{slice_get}
use Rattle.std.specs.Option.{option_or}
use Rattle.std.specs.Ordering.{is_le}
use Rattle.std.specs.declared.cmp.Ordering.{Ordering}
use Rattle.std.proofs.lemmas.Bool.{and_parts, cases_lt}
use Rattle.std.proofs.lemmas.Bool.Decides.{nat_tests}
use Rattle.raft_base.specs.LogId.{next_index}
use Rattle.raft_base.specs.LogView.{prev_id}
use Rattle.raft_base.specs.declared.log_id.LogIdOf.{LogIdOf}
use Rattle.raft_state.specs.log_id_list.FullLog.{end_index, first_index, same_log}
use Rattle.raft_state.specs.log_id_list.LogConditions.{all_follow, follows}
use Rattle.raft_state.specs.log_id_list.LogEdits.{front, log_after_append, log_after_extend, log_after_purge, missing_ids, rest}
use Rattle.raft_state.specs.log_id_list.LogKept.{HasIds, KeepsIds}
use Rattle.raft_state.specs.log_id_list.LogReads.{id_at, last_id}
use Rattle.raft_state.specs.log_id_list.LogReadsLawful.{id_at-indexed}
use Rattle.raft_state.proofs.lemmas.log_id_list.FrontLemmas.{front_all, front_last, front_none, last_at, rest_last}
use Rattle.raft_state.proofs.lemmas.log_id_list.FullLogLemmas.{ids_above, ids_below}
use Rattle.raft_state.proofs.lemmas.log_id_list.OrderLemmas.{From}
use Rattle.raft_state.proofs.lemmas.log_id_list.SameEditsLemmas.{id_at_finds}

or_none : {A : Type 0} (o : Option A) → option_or (option_or o None) None ≡ o
or_none None = refl
or_none (Some x) = refl

-- what is read of a log in two parts
reads_parts : {C : Type 0} (xs ys : List (LogIdOf C)) (i : ℕ) → id_at (xs ++ ys) i ≡ option_or (id_at xs i) (id_at ys i)
reads_parts [] ys i = refl
reads_parts (x ∷ xs) ys i = by (x.index == i) (reads_parts xs ys i)
  where
    by : (t : Bool) → id_at (xs ++ ys) i ≡ option_or (id_at xs i) (id_at ys i)
        → (if t then Some x else id_at (xs ++ ys) i) ≡ option_or (if t then Some x else id_at xs i) (id_at ys i)
    by true h = refl
    by false h = h

pub last_of_parts : {C : Type 0} (xs : List (LogIdOf C)) (y : LogIdOf C) → last_id (xs ++ y ∷ []) ≡ Some y
last_of_parts [] y = refl
last_of_parts (x ∷ []) y = refl
last_of_parts (x ∷ z ∷ xs) y = last_of_parts (z ∷ xs) y

-- the missing indexes are past the end of a log, and below the log id that is appended
missing_below : {C : Type 0} (log : List (LogIdOf C)) (j i : ℕ) → i < end_index log → id_at (missing_ids log j) i ≡ None
missing_below [] j i lt = refl
missing_below (k ∷ []) j i lt = ids_below k.leader_id (k.index + 1) (j - (k.index + 1)) i lt
missing_below (k ∷ l ∷ ks) j i lt = missing_below (l ∷ ks) j i lt

missing_past : {C : Type 0} (log : List (LogIdOf C)) (j i : ℕ) → end_index log ≤ j → j ≤ i → id_at (missing_ids log j) i ≡ None
missing_past [] j i end le = refl
missing_past (k ∷ []) j i end le = let e : end_index (k ∷ []) ≡ k.index + 1 = refl in
    ids_above k.leader_id (k.index + 1) (j - (k.index + 1)) i (omega arith)
missing_past (k ∷ l ∷ ks) j i end le = missing_past (l ∷ ks) j i end le

-- past its end a log has nothing
abbrev pub EndsThere : {C : Type 0} → List (LogIdOf C) → Type 0
EndsThere log = (i : ℕ) → end_index log ≤ i → id_at log i ≡ None

follows_past : {C : Type 0} (cmp : C → C → Ordering) (last : Option (LogIdOf C)) (id : LogIdOf C) → follows cmp last id ≡ true
    → next_index last ≤ id.index
follows_past cmp None id h = omega arith
follows_past cmp (Some l) id h = let b = and_parts (nat_lt l.index id.index) (is_le (cmp l.leader_id id.leader_id)) h in let lt = b.0 in
    grind (arith, nat_tests)

-- an append keeps what was there, has its own log id, and nothing past it
module _ {C : Type 0} (log : List (LogIdOf C)) (id : LogIdOf C) (past : end_index log ≤ id.index) where
  appended_end : end_index (log_after_append log id) ≡ id.index + 1
  appended_end = ap next_index (last_of_parts (log ++ missing_ids log id.index) id)

  appended_reads : (i : ℕ) → i < end_index log → id_at (log_after_append log id) i ≡ id_at log i
  appended_reads i lt =
      let t : (id.index == i) ≡ false = grind (arith, nat_tests) in
      reads_parts (log ++ missing_ids log id.index) (id ∷ []) i
      ∙ rw (reads_parts log (missing_ids log id.index) i, missing_below log id.index i lt, t) (or_none (id_at log i))

  appended_own : EndsThere log → id_at (log_after_append log id) id.index ≡ Some id
  appended_own ends =
      let t : (id.index == id.index) ≡ true = grind (arith, nat_tests) in
      reads_parts (log ++ missing_ids log id.index) (id ∷ []) id.index
      ∙ rw (
        reads_parts log (missing_ids log id.index) id.index,
        ends id.index past,
        missing_past log id.index id.index past (omega arith),
        t,
      ) refl

  appended_ends : EndsThere log → EndsThere (log_after_append log id)
  appended_ends ends i end =
      let e = appended_end in
      let t : (id.index == i) ≡ false = grind (arith, nat_tests) in
      reads_parts (log ++ missing_ids log id.index) (id ∷ []) i
      ∙ rw (reads_parts log (missing_ids log id.index) i, ends i (omega arith), missing_past log id.index i past (omega arith), t) refl

-- and so do several
module _ {C : Type 0} (cmp : C → C → Ordering) where
  pub extended_reads : (log ids : List (LogIdOf C)) (i : ℕ) → all_follow cmp (last_id log) ids ≡ true → i < end_index log
      → id_at (log_after_extend log ids) i ≡ id_at log i
  extended_reads log [] i follow lt = refl
  extended_reads log (id ∷ ids) i follow lt =
      let b = and_parts (follows cmp (last_id log) id) (all_follow cmp (Some id) ids) follow in
      let past = follows_past cmp (last_id log) id b.0 in
      let e = appended_end log id past in
      extended_reads (log_after_append log id) ids i (rw (last_of_parts (log ++ missing_ids log id.index) id) b.1) (omega arith)
      ∙ appended_reads log id past i lt

  pub extended_own : (log ids : List (LogIdOf C)) (n : ℕ) (own : LogIdOf C) → all_follow cmp (last_id log) ids ≡ true → EndsThere log
      → slice_get ids n ≡ Some own
      → id_at (log_after_extend log ids) own.index ≡ Some own
  extended_own log [] n own follow ends is = cc
  extended_own log (id ∷ ids) zero own follow ends is =
      let b = and_parts (follows cmp (last_id log) id) (all_follow cmp (Some id) ids) follow in
      let past = follows_past cmp (last_id log) id b.0 in
      let e = appended_end log id past in
      let same : id ≡ own = cc in
      subst (λ (x : LogIdOf C). id_at (log_after_extend (log_after_append log id) ids) x.index ≡ Some x) same
      (extended_reads (log_after_append log id) ids id.index (rw (last_of_parts (log ++ missing_ids log id.index) id) b.1) (omega arith)
      ∙ appended_own log id past ends)
  extended_own log (id ∷ ids) (suc n) own follow ends is =
      let b = and_parts (follows cmp (last_id log) id) (all_follow cmp (Some id) ids) follow in
      let past = follows_past cmp (last_id log) id b.0 in
      extended_own (log_after_append log id) ids n own (rw (last_of_parts (log ++ missing_ids log id.index) id) b.1)
      (appended_ends log id past ends) is

  -- up to the leaders' own equality
  pub extend_keeps_ids : (eq : C → C → Bool) (log new ids : List (LogIdOf C)) → IsTrue (same_log eq new (log_after_extend log ids))
      → all_follow cmp (last_id log) ids ≡ true → KeepsIds eq log new
  extend_keeps_ids eq log new ids same follow i lt =
      rw (extended_reads log ids i follow lt) at (id_at_finds eq i new (log_after_extend log ids) same)

  pub extend_has_ids : (eq : C → C → Bool) (log new ids : List (LogIdOf C)) → IsTrue (same_log eq new (log_after_extend log ids))
      → all_follow cmp (last_id log) ids ≡ true → EndsThere log → HasIds eq ids new
  extend_has_ids eq log new ids same follow ends n own is =
      rw (extended_own log ids n own follow ends is) at (id_at_finds eq own.index new (log_after_extend log ids) same)

  pub append_keeps_ids : (eq : C → C → Bool) (log new : List (LogIdOf C)) (id : LogIdOf C)
      → IsTrue (same_log eq new (log_after_append log id)) → follows cmp (last_id log) id ≡ true → KeepsIds eq log new
  append_keeps_ids eq log new id same follow i lt =
      rw (appended_reads log id (follows_past cmp (last_id log) id follow) i lt) at (id_at_finds eq i new (log_after_append log id) same)

-- consecutive indexes: the end, what is past it, and the last log id by its index
pub from_end : {C : Type 0} (b : ℕ) (x : LogIdOf C) (xs : List (LogIdOf C)) → From b (x ∷ xs) → end_index (x ∷ xs) ≡ b + length (x ∷ xs)
from_end b x xs h = let z = last_at b x xs h in let z2 = z.2 in ap next_index z.1 ∙ z2

pub end_at : {C : Type 0} (b : ℕ) (xs : List (LogIdOf C)) {i : ℕ} → From b xs → i < b + length xs → b ≤ i → end_index xs ≡ b + length xs
end_at b [] h lt le = absurd (omega arith)
end_at b (x ∷ xs) h lt le = from_end b x xs h

none_past : {C : Type 0} (b : ℕ) (xs : List (LogIdOf C)) (i : ℕ) → From b xs → b + length xs ≤ i → id_at xs i ≡ None
none_past b [] i h le = refl
none_past b (x ∷ xs) i h le =
    let h0 = h.0 in let n : length (x ∷ xs) ≡ suc (length xs) = refl in
    let t : (x.index == i) ≡ false = grind (arith, nat_tests) in
    rw t (none_past (b + 1) xs i h.1 (omega arith))

pub ends_there : {C : Type 0} (b : ℕ) (xs : List (LogIdOf C)) → From b xs → EndsThere xs
ends_there b [] h i end = refl
ends_there b (x ∷ xs) h i end = let e = from_end b x xs h in none_past b (x ∷ xs) i h (omega arith)

pub last_found : {C : Type 0} (b : ℕ) (xs : List (LogIdOf C)) (y : LogIdOf C) → From b xs → last_id xs ≡ Some y → id_at xs y.index ≡ Some y
last_found b [] y h is = cc
last_found b (x ∷ xs) y h is =
    let e = from_end b x xs h in let n : end_index (x ∷ xs) ≡ y.index + 1 = ap next_index is in
    sym (front_last b y.index (x ∷ xs) h (omega arith)) ∙ rw (front_all b (suc y.index) (x ∷ xs) h (omega arith)) is

-- what is truncated or purged is not in the log any more, and the rest is
pub front_reads : {C : Type 0} (xs : List (LogIdOf C)) (a i : ℕ) → i < a → id_at (front xs a) i ≡ id_at xs i
front_reads [] a i lt = refl
front_reads (x ∷ xs) a i lt = elim (cases_lt x.index a) [
  | inl below ↦ (let t : nat_lt x.index a ≡ true = grind (arith, nat_tests) in rw t (same (x.index == i) (front_reads xs a i lt)))
  | inr past ↦ (let t : nat_lt x.index a ≡ false = grind (arith, nat_tests) in let u : (x.index == i) ≡ false = grind (arith, nat_tests) in
      rw (t, u) (front_reads xs a i lt))
]
  where
    same : (t : Bool) → id_at (front xs a) i ≡ id_at xs i
        → (if t then Some x else id_at (front xs a) i) ≡ (if t then Some x else id_at xs i)
    same true h = refl
    same false h = h

rest_reads : {C : Type 0} (xs : List (LogIdOf C)) (a i : ℕ) → a ≤ i → id_at (rest xs a) i ≡ id_at xs i
rest_reads [] a i le = refl
rest_reads (x ∷ xs) a i le = elim (cases_lt x.index a) [
  | inl below ↦ (let t : nat_le a x.index ≡ false = grind (arith, nat_tests) in let u : (x.index == i) ≡ false = grind (arith, nat_tests) in
      rw (t, u) (rest_reads xs a i le))
  | inr past ↦ (let t : nat_le a x.index ≡ true = grind (arith, nat_tests) in rw t (same (x.index == i) (rest_reads xs a i le)))
]
  where
    same : (t : Bool) → id_at (rest xs a) i ≡ id_at xs i → (if t then Some x else id_at (rest xs a) i) ≡ (if t then Some x else id_at xs i)
    same true h = refl
    same false h = h

-- the last log id below an index
pub front_ends : {C : Type 0} (b : ℕ) (xs : List (LogIdOf C)) (a : ℕ) → From b xs
    → last_id (front xs a) ≡ prev_id (id_at xs) (min a (end_index xs))
front_ends b [] a h = let m : min a 0 ≡ 0 = omega arith in rw m refl
front_ends b (x ∷ xs) zero h = rw (front_none b 0 (x ∷ xs) h (omega arith))
    (let m : min 0 (end_index (x ∷ xs)) ≡ 0 = omega arith in rw m refl)
front_ends {C} b (x ∷ xs) (suc j) h =
    let e = from_end b x xs h in
    elim (cases_lt j (end_index (x ∷ xs))) [
      | inl within ↦ (let m : min (suc j) (end_index (x ∷ xs)) ≡ suc j = omega arith in rw m (front_last b j (x ∷ xs) h (omega arith)))
      | inr past ↦ (let m : min (suc j) (end_index (x ∷ xs)) ≡ end_index (x ∷ xs) = omega arith in
          rw (m, front_all b (suc j) (x ∷ xs) h (omega arith)) (whole (last_at b x xs h)))
    ]
  where
    whole : (y : LogIdOf C) × (last_id (x ∷ xs) ≡ Some y) × (y.index + 1 ≡ b + length (x ∷ xs))
        → last_id (x ∷ xs) ≡ prev_id (id_at (x ∷ xs)) (end_index (x ∷ xs))
    whole (y, is, at) =
        let n : end_index (x ∷ xs) ≡ y.index + 1 = ap next_index is in
        let s : y.index + 1 ≡ suc y.index = omega arith in
        rw (n, s) (is ∙ sym (last_found b (x ∷ xs) y h is))

-- each index within has a log id
pub has_id_at : {C : Type 0} (b : ℕ) (xs : List (LogIdOf C)) (i : ℕ) → From b xs → b ≤ i → i < b + length xs
    → (x : LogIdOf C) × (id_at xs i ≡ Some x)
has_id_at b [] i h le lt = absurd (omega arith)
has_id_at {C} b (x ∷ xs) i h le lt =
    let h0 = h.0 in let n : length (x ∷ xs) ≡ suc (length xs) = refl in
    elim (cases_lt x.index i) [
      | inl later ↦ (let t : (x.index == i) ≡ false = grind (arith, nat_tests) in let r =
          has_id_at (b + 1) xs i h.1 (omega arith) (omega arith) in (r.0, rw t r.1))
      | inr here ↦ (let t : (x.index == i) ≡ true = grind (arith, nat_tests) in (x, rw t refl))
    ]

next_of : {C : Type 0} (xs : List (LogIdOf C)) (i : ℕ) (x : LogIdOf C) → id_at xs i ≡ Some x → next_index (id_at xs i) ≡ suc i
next_of xs i x e = let at : x.index ≡ i = rw e at (id_at-indexed xs i) in let n : next_index (id_at xs i) ≡ x.index + 1 = ap next_index e in
    omega arith

pub front_end : {C : Type 0} (xs : List (LogIdOf C)) (a : ℕ) → From (first_index xs) xs
    → end_index (front xs a) ≡ (if nat_lt (first_index xs) a then min a (end_index xs) else 0)
front_end [] a h = by (nat_lt 0 a)
  where
    by : (t : Bool) → 0 ≡ (if t then min a 0 else 0)
    by true = omega arith
    by false = refl
front_end {C} (x ∷ xs) a h = elim (cases_lt x.index a) [
  | inl below ↦
      (let t : nat_lt x.index a ≡ true = grind (arith, nat_tests) in
      let e = from_end x.index x xs h in
      let n : length (x ∷ xs) ≡ suc (length xs) = refl in
      let s : min a (end_index (x ∷ xs)) ≡ suc (min a (end_index (x ∷ xs)) - 1) = omega arith in
      let z = has_id_at x.index (x ∷ xs) (min a (end_index (x ∷ xs)) - 1) h (omega arith) (omega arith) in
      let last = ap next_index (front_ends x.index (x ∷ xs) a h) in
      last ∙ rw (t, s) (next_of (x ∷ xs) (min a (end_index (x ∷ xs)) - 1) z.0 z.1))
  | inr past ↦ (let t : nat_lt x.index a ≡ false = grind (arith, nat_tests) in
      ap end_index (front_none x.index a (x ∷ xs) h past) ∙ rw t refl)
]

module _ {C : Type 0} (log : List (LogIdOf C)) (upto : LogIdOf C) (row : From (first_index log) log) where
  -- within a log, what a purge leaves ends at the end of the log
  rest_ends : (xs : List (LogIdOf C)) → From (first_index xs) xs → nat_le (end_index xs) upto.index ≡ false
      → last_id (rest xs upto.index) ≡ last_id xs
  rest_ends [] h e = cc
  rest_ends (x ∷ xs) h e = let n = from_end x.index x xs h in rest_last x.index upto.index (x ∷ xs) h (grind (arith, nat_tests))

  pub purged_ends : last_id (log_after_purge log upto) ≡ (if nat_le (end_index log) upto.index then Some upto else last_id log)
  purged_ends = by (nat_le (end_index log) upto.index) refl
    where
      within : (u : Bool) → nat_le (end_index log) upto.index ≡ false → last_id (if u then log else rest log upto.index) ≡ last_id log
      within true e = refl
      within false e = rest_ends log row e

      by : (t : Bool) → nat_le (end_index log) upto.index ≡ t
          → last_id (if t then upto ∷ [] else (if nat_lt upto.index (first_index log) then log else rest log upto.index))
          ≡ (if t then Some upto else last_id log)
      by true e = refl
      by false e = within (nat_lt upto.index (first_index log)) e

  pub purged_end : end_index (log_after_purge log upto) ≡ max (end_index log) (upto.index + 1)
  purged_end = ap next_index purged_ends ∙ by (nat_le (end_index log) upto.index) refl
    where
      by : (t : Bool) → nat_le (end_index log) upto.index ≡ t
          → next_index (if t then Some upto else last_id log) ≡ max (end_index log) (upto.index + 1)
      by true e = let le : end_index log ≤ upto.index = grind (arith, nat_tests) in omega arith
      by false e = let lt : upto.index < end_index log = grind (arith, nat_tests) in omega arith

  pub purged_reads : (i : ℕ) → upto.index ≤ i → i < end_index log → id_at (log_after_purge log upto) i ≡ id_at log i
  purged_reads i le lt = let t : nat_le (end_index log) upto.index ≡ false = grind (arith, nat_tests) in
      rw t (by (nat_lt upto.index (first_index log)))
    where
      by : (u : Bool) → id_at (if u then log else rest log upto.index) i ≡ id_at log i
      by true = refl
      by false = rest_reads log upto.index i le
