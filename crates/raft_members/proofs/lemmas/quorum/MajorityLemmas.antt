-- How many keys two lists share.
use Rattle.std.specs.Prelude.{◌≡◌, ℕ, ◌*◌, Bool, true, false, cond, ◌&&◌, ◌||◌, List, [], ◌∷◌, length, count_by, filter}
use Rattle.std.specs.Set.{unique_keys, is_member}
use Rattle.std.specs.Cmp.{IsEquivalence}
use Rattle.std.specs.Ordering.{eq_by_cmp}
use Rattle.std.specs.declared.cmp.Ordering.{Ordering}
use Rattle.std.specs.BTreeMap.{is_at}
use Rattle.std.specs.BTreeSet.{BTreeSet, IsFromIterResult}
use Rattle.std.specs.List.{IsDistinct, AllByRecursion, list_any, dedup, dedup_from}
use Rattle.std.proofs.Common.{arith, sym, ap, refl, ◌∙◌, true≢false, ltb, ltb-true, lt-ltb, ◌/◌}
use Rattle.std.proofs.Math.Bool.{and_comm}
use Rattle.std.proofs.lemmas.Bool.{ltb_from_iff}
use Rattle.raft_members.specs.quorum.Majority.{is_majority}
use Rattle.std.proofs.lemmas.List.Sums.{length-filter}
use Rattle.std.proofs.lemmas.Map.Made.{is_member-filter, length-IsIntersection}

module _ {K : Type 0} {eq : K → K → Bool} (laws : IsEquivalence eq) where
  -- equal keys are both members or neither is
  pub is_member-alike : (q x : K) → eq q x ≡ true → (ys : List K) → is_member eq ys q ≡ is_member eq ys x
  is_member-alike q x e [] = refl
  is_member-alike q x e (y ∷ ys) = rw (laws.congr q x y e, is_member-alike q x e ys) refl

  apart_from_absent : (x : K) (ys : List K) → is_member eq ys x ≡ false → AllByRecursion (λ y. eq x y ≡ false) ys
  apart_from_absent x [] h = tt
  apart_from_absent x (y ∷ ys) h = by (eq x y) refl h (apart_from_absent x ys)
    where
      by : (b : Bool) → eq x y ≡ b → (b || is_member eq ys x) ≡ false
          → (is_member eq ys x ≡ false → AllByRecursion (λ y. eq x y ≡ false) ys)
          → (eq x y ≡ false) × AllByRecursion (λ y. eq x y ≡ false) ys
      by true t g r = absurd (true≢false g)
      by false t g r = (t, r g)

  pub is_member-unique_keys : (xs : List K) (q : K) → is_member eq (unique_keys eq xs) q ≡ is_member eq xs q
  is_member-unique_keys [] q = refl
  is_member-unique_keys (x ∷ xs) q = by (is_member eq xs x) (eq q x) refl refl (is_member-unique_keys xs q)
    where
      by : (b c : Bool) → is_member eq xs x ≡ b → eq q x ≡ c → is_member eq (unique_keys eq xs) q ≡ is_member eq xs q
          → is_member eq (cond b (unique_keys eq xs) (x ∷ unique_keys eq xs)) q ≡ (c || is_member eq xs q)
      by true true m t r = r ∙ is_member-alike q x t xs ∙ m
      by true false m t r = r
      by false c m t r = rw t (ap (λ v. c || v) r)

  pub IsDistinct-unique_keys : (xs : List K) → IsDistinct eq (unique_keys eq xs)
  unfolding IsDistinct
  IsDistinct-unique_keys [] = tt
  IsDistinct-unique_keys (x ∷ xs) = by (is_member eq xs x) refl (IsDistinct-unique_keys xs)
    where
      by : (b : Bool) → is_member eq xs x ≡ b → IsDistinct eq (unique_keys eq xs)
          → IsDistinct eq (cond b (unique_keys eq xs) (x ∷ unique_keys eq xs))
      by true m r = r
      by false m r = (apart_from_absent x (unique_keys eq xs) (is_member-unique_keys xs x ∙ m), r)

  all_filter : (x : K) (p : K → Bool) (xs : List K) → AllByRecursion (λ y. eq x y ≡ false) xs
      → AllByRecursion (λ y. eq x y ≡ false) (filter p xs)
  all_filter x p [] a = tt
  all_filter x p (y ∷ ys) a =
      elim (p y) as (λ b. AllByRecursion (λ z. eq x z ≡ false) (cond b (y ∷ filter p ys) (filter p ys)))
      [ true ↦ (a.0, all_filter x p ys a.1) | false ↦ all_filter x p ys a.1 ]

  pub IsDistinct-filter : (p : K → Bool) (xs : List K) → IsDistinct eq xs → IsDistinct eq (filter p xs)
  unfolding IsDistinct
  IsDistinct-filter p [] d = tt
  IsDistinct-filter p (x ∷ xs) d =
      elim (p x) as (λ b. IsDistinct eq (cond b (x ∷ filter p xs) (filter p xs)))
      [ true ↦ (all_filter x p xs d.0, IsDistinct-filter p xs d.1) | false ↦ IsDistinct-filter p xs d.1 ]

  -- the number of distinct ids that are voters is the number of voters, each counted once, that are
  -- among the ids
  pub count_by-is_member : (ids voters : List K) → IsDistinct eq ids
      → count_by (λ x. is_member eq voters x) ids ≡ count_by (is_member eq ids) (unique_keys eq voters)
  count_by-is_member ids voters d =
      sym (length-filter (is_member eq voters) ids)
      ∙ length-IsIntersection laws (unique_keys eq voters) ids (filter (is_member eq voters) ids) (IsDistinct-unique_keys voters)
      (IsDistinct-filter (is_member eq voters) ids d)
      (λ q. is_member-filter laws (is_member eq voters) q (λ x e. is_member-alike q x e voters) ids
      ∙ and_comm (is_member eq ids q) (is_member eq voters q)
      ∙ ap (λ b. b && is_member eq ids q) (sym (is_member-unique_keys voters q)))

  pub flipped : (x : K) (ys : List K) → list_any (λ y. eq y x) ys ≡ is_member eq ys x
  flipped x [] = refl
  flipped x (y ∷ ys) = rw (laws.symm y x, flipped x ys) refl

  -- comparing a count with half of a length
  half : (n m : ℕ) → ltb (m / 2) n ≡ ltb m (2 * n)
  half n m = ltb_from_iff ((λ e. let l = ltb-true _ _ e in omega arith), (λ l. lt-ltb _ _ (omega arith)))

  pub majority_count : (ids voters : List K) → IsDistinct eq ids
      → ltb (length voters / 2) (count_by (λ x. list_any (λ y. eq y x) voters) ids) ≡ is_majority eq voters (is_member eq ids)
  majority_count ids voters d =
      half _ (length voters) ∙ ap (λ n. ltb (length voters) (2 * n)) (count_same ids ∙ count_by-is_member ids voters d)
    where
      count_same : (zs : List K) → count_by (λ x. list_any (λ y. eq y x) voters) zs ≡ count_by (λ x. is_member eq voters x) zs
      count_same zs = simp flipped

  -- dropping repeats of the last one keeps the members
  is_member-dedup_from : (k : K) (xs : List K) (q : K) → is_member eq (dedup_from eq k xs) q ≡ is_member eq (k ∷ xs) q
  is_member-dedup_from k [] q = refl
  is_member-dedup_from k (x ∷ xs) q = by (eq x k) (eq q x) refl refl (is_member-dedup_from k xs q) (is_member-dedup_from x xs q)
    where
      by : (b c : Bool) → eq x k ≡ b → eq q x ≡ c → is_member eq (dedup_from eq k xs) q ≡ (eq q k || is_member eq xs q)
          → is_member eq (dedup_from eq x xs) q ≡ (eq q x || is_member eq xs q)
          → is_member eq (cond b (dedup_from eq k xs) (k ∷ dedup_from eq x xs)) q ≡ (eq q k || (c || is_member eq xs q))
      by true true t u h i = h ∙ ap (λ b. b || is_member eq xs q) (laws.congr q x k u ∙ t)
          ∙ sym (ap (λ b. b || true) (laws.congr q x k u ∙ t))
      by true false t u h i = h
      by false c t u h i = ap (λ b. eq q k || b) (i ∙ ap (λ b. b || is_member eq xs q) u)

  pub is_member-dedup : (xs : List K) (q : K) → is_member eq (dedup eq xs) q ≡ is_member eq xs q
  is_member-dedup [] q = refl
  is_member-dedup (x ∷ xs) q = is_member-dedup_from x xs q

  -- a set contains an id exactly if its list of keys does
  pub in_set : (cmp : K → K → Ordering) (ties : (x y : K) → eq x y ≡ eq_by_cmp cmp x y) (x : K) (ys : List K)
      → list_any (is_at (cmp x)) ys ≡ is_member eq ys x
  in_set cmp ties x [] = refl
  in_set cmp ties x (y ∷ ys) = rw (ties x y, in_set cmp ties x ys) refl

  pub set_majority : (cmp : K → K → Ordering) (ties : (x y : K) → eq x y ≡ eq_by_cmp cmp x y) (ids voters : List K) → IsDistinct eq ids
      → ltb (length voters / 2) (count_by (λ x. list_any (is_at (cmp x)) voters) ids) ≡ is_majority eq voters (is_member eq ids)
  set_majority cmp ties ids voters d =
      half _ (length voters) ∙ ap (λ n. ltb (length voters) (2 * n)) (count_same ids ∙ count_by-is_member ids voters d)
    where
      count_same : (zs : List K) → count_by (λ x. list_any (is_at (cmp x)) voters) zs ≡ count_by (λ x. is_member eq voters x) zs
      count_same zs = ap (λ (f : K → Bool). count_by f zs) (λ i x. in_set cmp ties x voters i)

  -- a set that a list was collected into has its members
  pub is_member-collected : (cmp : K → K → Ordering) (ties : (x y : K) → eq x y ≡ eq_by_cmp cmp x y) (xs : List K) (set : BTreeSet K)
      → IsFromIterResult cmp xs set → (x : K) → is_member eq set.keys x ≡ is_member eq xs x
  is_member-collected cmp ties xs set made x = sym (in_set cmp ties x set.keys) ∙ made.0 x ∙ in_set cmp ties x xs
