-- A superset of a quorum is a quorum.
use Rattle.std.specs.Prelude.{◌≡◌, ◌≤◌, ℕ, Bool, true, false, cond, List, [], ◌∷◌, count_by, refl}
use Rattle.std.specs.List.{list_all}
use Rattle.std.specs.Cmp.{first_so, second_so}
use Rattle.std.specs.Cmp.Derive.{both_true}
use Rattle.std.specs.Set.{unique_keys}
use Rattle.std.proofs.Common.{arith, ltb-true, lt-ltb}
use Rattle.std.proofs.lemmas.Bool.{leb-true, le-leb}
use Rattle.std.proofs.lemmas.List.Sums.{sum_by-cons}
use Rattle.raft_members.specs.quorum.Majority.{has_at_least, is_majority, is_joint_majority}

-- a superset has no fewer members
pub count_by-le-larger : {K : Type 0} (s t : K → Bool) → ((x : K) → s x ≡ true → t x ≡ true)
    → (xs : List K) → count_by s xs ≤ count_by t xs
count_by-le-larger s t h [] = omega arith
count_by-le-larger {K} s t h (x ∷ xs) =
    let one : (b : Bool) → s x ≡ b → cond b 1 0 ≤ cond (t x) 1 0 =
    elim [ true ↦ λ e. rw (h x e) (omega arith) | false ↦ λ e. omega arith ] in
    omega (
      arith,
      one (s x) refl,
      count_by-le-larger s t h xs,
      sum_by-cons (λ y. cond (s y) 1 0) x xs,
      sum_by-cons (λ y. cond (t y) 1 0) x xs,
    )

pub is_majority-superset : {K : Type 0} (eq : K → K → Bool) (config : List K) (s t : K → Bool)
    → ((x : K) → s x ≡ true → t x ≡ true) → is_majority eq config s ≡ true
    → is_majority eq config t ≡ true
is_majority-superset eq config s t h q =
    lt-ltb _ _ (omega (arith, ltb-true _ _ q, count_by-le-larger s t h (unique_keys eq config)))

-- what passes a test passes a weaker one
pub list_all-weaker : {Q : Type 0} (p r : Q → Bool) → ((q : Q) → p q ≡ true → r q ≡ true)
    → (qs : List Q) → list_all p qs ≡ true → list_all r qs ≡ true
list_all-weaker p r f [] h = h
list_all-weaker p r f (q ∷ qs) h =
    both_true (f q (first_so _ _ h)) (list_all-weaker p r f qs (second_so _ _ h))

pub is_joint_majority-superset : {K : Type 0} (eq : K → K → Bool) (configs : List (List K))
    (s t : K → Bool) → ((x : K) → s x ≡ true → t x ≡ true) → is_joint_majority eq configs s ≡ true
    → is_joint_majority eq configs t ≡ true
is_joint_majority-superset eq configs s t h =
    list_all-weaker (λ c. is_majority eq c s) (λ c. is_majority eq c t)
    (λ c. is_majority-superset eq c s t h) configs

pub has_at_least-superset : {K : Type 0} (eq : K → K → Bool) (ids : List K) (need : ℕ)
    (s t : K → Bool)
    → ((x : K) → s x ≡ true → t x ≡ true) → has_at_least eq ids need s ≡ true
    → has_at_least eq ids need t ≡ true
has_at_least-superset eq ids need s t h q =
    le-leb _ _ (omega (arith, leb-true _ _ q, count_by-le-larger s t h (unique_keys eq ids)))
