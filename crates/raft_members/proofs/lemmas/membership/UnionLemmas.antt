-- What a union of sorted lists has, and that it adds nothing twice.
use Rattle.std.proofs.lemmas.Bool.{or_left, or_right}
use Rattle.std.specs.Prelude.{◌≡◌, Bool, true, false, ◌||◌, List, [], ◌∷◌, refl}
use Rattle.std.proofs.Common.{◌∙◌, ap}
use Rattle.std.specs.declared.cmp.Ordering.{Ordering}
use Rattle.std.specs.declared.cmp.Ordering.TheVariants.{Less, Equal, Greater}
use Rattle.std.specs.Cmp.{IsEquivalence}
use Rattle.std.specs.Ordering.{eq_by_cmp, is_eq, match_ordering}
use Rattle.std.specs.Set.{is_member, merge_step}
use Rattle.raft_members.specs.membership.Change.{union_of}
use Rattle.raft_members.proofs.lemmas.quorum.NextLemmas.{equal_right}

module _ {K : Type 0} {eq : K → K → Bool} (laws : IsEquivalence eq) (cmp : K → K → Ordering) (ties : (x y : K) → eq x y ≡ eq_by_cmp cmp x y)
    (q x : K) (xs : List K) (on : List K → List K) (has : (ys : List K) → is_member eq ys q ≡ true → is_member eq (on ys) q ≡ true) where
  first_by : (y : K) (ys : List K) (b : Bool) → eq q y ≡ b → eq x y ≡ true → (b || is_member eq ys q) ≡ true
      → is_member eq (x ∷ on ys) q ≡ true
  first_by y ys true h e m = or_left _ _ (equal_right laws q x y e ∙ h)
  first_by y ys false h e m = or_right _ _ (has ys m)

  next_by : (y : K) (ys : List K) (b : Bool) → eq q y ≡ b
      → (is_member eq ys q ≡ true → is_member eq (merge_step cmp true x xs on ys) q ≡ true) → (b || is_member eq ys q) ≡ true
      → is_member eq (y ∷ merge_step cmp true x xs on ys) q ≡ true
  next_by y ys true h later m = or_left _ _ h
  next_by y ys false h later m = or_right _ _ (later m)

  step_by : (y : K) (ys : List K) (o : Ordering) → cmp x y ≡ o
      → (is_member eq ys q ≡ true → is_member eq (merge_step cmp true x xs on ys) q ≡ true) → is_member eq (y ∷ ys) q ≡ true
      → is_member eq (match_ordering o (x ∷ on (y ∷ ys)) (x ∷ on ys) (y ∷ merge_step cmp true x xs on ys)) q ≡ true
  step_by y ys Less e later m = or_right _ _ (has (y ∷ ys) m)
  step_by y ys Equal e later m = first_by y ys (eq q y) (λ i. eq q y) (ties x y ∙ ap is_eq e) m
  step_by y ys Greater e later m = next_by y ys (eq q y) (λ i. eq q y) later m

  step_has : (ys : List K) → is_member eq ys q ≡ true → is_member eq (merge_step cmp true x xs on ys) q ≡ true
  step_has [] m = cc
  step_has (y ∷ ys) m = step_by y ys (cmp x y) (λ i. cmp x y) (step_has ys) m

-- a union has the members of its second list
pub is_member-union_of : {K : Type 0} {eq : K → K → Bool} (laws : IsEquivalence eq) (cmp : K → K → Ordering)
    (ties : (x y : K) → eq x y ≡ eq_by_cmp cmp x y) (q : K) (xs ys : List K) → is_member eq ys q ≡ true
    → is_member eq (union_of cmp xs ys) q ≡ true
is_member-union_of laws cmp ties q [] ys m = m
is_member-union_of laws cmp ties q (x ∷ xs) ys m =
    step_has laws cmp ties q x xs (union_of cmp xs) (λ zs n. is_member-union_of laws cmp ties q xs zs n) ys m

module _ {K : Type 0} (cmp : K → K → Ordering) (ties : (x : K) → cmp x x ≡ Equal) where
  union_self : (ys : List K) → union_of cmp ys ys ≡ ys
  union_self [] = refl
  union_self (y ∷ ys) = rw (ties y) (ap (λ zs. y ∷ zs) (union_self ys))

  again_by : (x : K) (xs : List K) (y : K) (ys : List K) (o : Ordering) → cmp x y ≡ o
      → union_of cmp (union_of cmp xs (y ∷ ys)) (y ∷ ys) ≡ union_of cmp xs (y ∷ ys)
      → union_of cmp (union_of cmp xs ys) ys ≡ union_of cmp xs ys → union_of cmp (union_of cmp (x ∷ xs) ys) ys ≡ union_of cmp (x ∷ xs) ys
      → union_of cmp (match_ordering o (x ∷ union_of cmp xs (y ∷ ys)) (x ∷ union_of cmp xs ys) (y ∷ union_of cmp (x ∷ xs) ys)) (y ∷ ys)
      ≡ match_ordering o (x ∷ union_of cmp xs (y ∷ ys)) (x ∷ union_of cmp xs ys) (y ∷ union_of cmp (x ∷ xs) ys)
  again_by x xs y ys Less e less tie greater = rw e (ap (λ zs. x ∷ zs) less)
  again_by x xs y ys Equal e less tie greater = rw e (ap (λ zs. x ∷ zs) tie)
  again_by x xs y ys Greater e less tie greater = rw (ties y) (ap (λ zs. y ∷ zs) greater)

  again_step : (x : K) (xs : List K) → ((ys : List K) → union_of cmp (union_of cmp xs ys) ys ≡ union_of cmp xs ys) → (ys : List K)
      → union_of cmp (union_of cmp (x ∷ xs) ys) ys ≡ union_of cmp (x ∷ xs) ys
  again_step x xs next [] = refl
  again_step x xs next (y ∷ ys) = again_by x xs y ys (cmp x y) refl (next (y ∷ ys)) (next ys) (again_step x xs next ys)

  -- if a union contains the second list already, adding it again changes nothing
  pub union_again : (xs ys : List K) → union_of cmp (union_of cmp xs ys) ys ≡ union_of cmp xs ys
  union_again [] ys = union_self ys
  union_again (x ∷ xs) ys = again_step x xs (union_again xs) ys
