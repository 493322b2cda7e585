-- The least inherited id whose value is below a new default.
use Rattle.std.specs.Prelude.{◌≡◌, Bool, true, false, cond, ◌||◌, Contains, List, [], ◌∷◌, ◌++◌, Option, Some, None}
use Rattle.std.specs.declared.cmp.Ordering.{Ordering}
use Rattle.std.specs.declared.cmp.Ordering.TheVariants.{Less, Equal, Greater}
use Rattle.std.specs.Ordering.{is_le, is_lt, eq_by_cmp}
use Rattle.std.specs.Cmp.{IsEquivalence, IsTotalOrder, first_so, second_so}
use Rattle.std.specs.Map.{lookup}
use Rattle.std.specs.Set.{is_member}
use Rattle.std.specs.List.{AllByRecursion, list_all}
use Rattle.std.proofs.Common.{arith, sym, ap, refl, ◌∙◌, subst, true≢false}
use Rattle.std.proofs.lemmas.List.Elements.{All-contains, Contains-append_left, Contains-append_right}
use Rattle.std.proofs.lemmas.List.Folds.{list_any-append}
use Rattle.std.proofs.lemmas.Map.Made.{All-is_member}
use Rattle.raft_progress.specs.Inner.Recount.{at_least}
use Rattle.raft_progress.specs.progress.CountedValue.{AtMost}
use Rattle.raft_progress.specs.progress.Upgrade.{CanUpgrade, InheritsBelow, IsLeastBelow}
use Rattle.raft_progress.specs.Inner.Conditions.{IsLeastPassing, is_below_bound, is_value_below}
use Rattle.raft_progress.proofs.lemmas.ListLemmas.{all_both, all_weaker}
use Rattle.raft_progress.proofs.lemmas.OrderLemmas.{AtMost-refl, AtMost-trans, AtMost-from_lt, AtMost-from_not_lt}
use Rattle.raft_progress.proofs.lemmas.progress.recount.CountedValueLemmas.{not_both}
use Rattle.raft_progress.proofs.lemmas.progress.UpdateLemmas.{lookup_alike}

-- ---- one entry more

module _ {ID : Type 0} {cmp : ID → ID → Ordering} (o : IsTotalOrder cmp) (test : ID → Bool) (seen : List ID) (x : ID) where
  -- the id doesn't pass
  pub least_stays : (least : Option ID) → test x ≡ false → IsLeastPassing cmp test seen least
      → IsLeastPassing cmp test (seen ++ x ∷ []) least
  least_stays None h a = all_both (λ (y : ID). test y ≡ false) seen (x ∷ []) a (h, tt)
  least_stays (Some id) h a = (
    Contains-append_left seen (x ∷ []) id a.0,
    a.1,
    all_both (λ (y : ID). test y ≡ true → is_le (cmp id y) ≡ true) seen (x ∷ []) a.2
        ((λ k. absurd (true≢false (sym k ∙ h))), tt),
  )

  -- it passes, and is no less than the least
  pub least_holds : (least : Option ID) → is_below_bound cmp x least ≡ false → IsLeastPassing cmp test seen least
      → IsLeastPassing cmp test (seen ++ x ∷ []) least
  least_holds None h a = absurd (true≢false h)
  least_holds (Some id) h a = (
    Contains-append_left seen (x ∷ []) id a.0,
    a.1,
    all_both (λ (y : ID). test y ≡ true → is_le (cmp id y) ≡ true) seen (x ∷ []) a.2
        ((λ k. AtMost-from_not_lt o x id h), tt),
  )

  last_one : Contains (seen ++ x ∷ []) x
  last_one = Contains-append_right seen (x ∷ []) x (0, omega arith, refl)

  -- it passes, and is the least now
  pub least_falls : (least : Option ID) → test x ≡ true → is_below_bound cmp x least ≡ true → IsLeastPassing cmp test seen least
      → IsLeastPassing cmp test (seen ++ x ∷ []) (Some x)
  least_falls None t h a = (
    last_one,
    t,
    all_both (λ (y : ID). test y ≡ true → is_le (cmp x y) ≡ true) seen (x ∷ [])
        (all_weaker (λ (y : ID). test y ≡ false) (λ y. test y ≡ true → is_le (cmp x y) ≡ true)
        (λ y n k. absurd (true≢false (sym k ∙ n))) seen a)
        ((λ k. AtMost-refl o x), tt),
  )
  least_falls (Some id) t h a = (
    last_one,
    t,
    all_both (λ (y : ID). test y ≡ true → is_le (cmp x y) ≡ true) seen (x ∷ [])
        (all_weaker (λ (y : ID). test y ≡ true → is_le (cmp id y) ≡ true) (λ y. test y ≡ true → is_le (cmp x y) ≡ true)
        (λ y n k. AtMost-trans o x id y (AtMost-from_lt cmp x id h) (n k)) seen a.2)
        ((λ k. AtMost-refl o x), tt),
  )

-- ---- no value is below

-- if no entry is below a part, no value that a look-up finds is
pub not_below : {ID V P : Type 0} (eq : ID → ID → Bool) (cmp : P → P → Ordering) (part : V → P) (p : P) (es : List (ID × V))
    → list_all (at_least cmp part p) es ≡ true → (x : ID) (v : V) → lookup (eq x) es ≡ Some v → AtMost cmp p (part v)
not_below eq cmp part p [] h x v l = absurd (none_some l)
  where
    none_some : {X : Type 0} {u : X} → None ≡ Some u → ⊥
    none_some e = cc
not_below {ID} {V} eq cmp part p (e ∷ es) h x v l = by (eq x e.0) l (not_below eq cmp part p es (second_so _ _ h) x v)
  where
    by : (b : Bool) → cond b (Some e.1) (lookup (eq x) es) ≡ Some v → (lookup (eq x) es ≡ Some v → AtMost cmp p (part v))
        → AtMost cmp p (part v)
    by true k r = let same : e.1 ≡ v = cc in subst (λ (u : V). AtMost cmp p (part u)) same (first_so _ _ h)
    by false k r = r k

-- ---- what the least one says

module _ {ID V P : Type 0} {eq : ID → ID → Bool} (laws : IsEquivalence eq) (id_cmp : ID → ID → Ordering) (io : IsTotalOrder id_cmp)
    (ties : (x y : ID) → eq x y ≡ eq_by_cmp id_cmp x y) {cmp : P → P → Ordering} (o : IsTotalOrder cmp) (part : V → P)
    (is_voter : ID → Bool) (voters learners : List ID) (known : (x : ID) → is_member eq voters x ≡ is_voter x) (default : V)
    (entries : List (ID × V)) where
  abbrev is_inherited : ID → Bool
  is_inherited x = is_voter x || is_member eq learners x

  -- whether an id's value is below the default's part
  abbrev pub test : ID → Bool
  test x = is_value_below cmp part (part default) (lookup (eq x) entries)

  test_alike : (x y : ID) → eq x y ≡ true → test x ≡ test y
  test_alike x y e = ap (is_value_below cmp part (part default)) (lookup_alike laws x y e entries)

  -- the id of the list that equals one that is inherited
  one_of : {R : ID → Type 0} (ids : List ID) (x : ID) → is_member eq ids x ≡ true → AllByRecursion R ids
      → (y : ID) × (eq x y ≡ true) × R y
  one_of [] x h a = absurd (true≢false (sym h))
  one_of {R} (y ∷ ys) x h a = by (eq x y) refl h (λ k. one_of ys x k a.1)
    where
      by : (b : Bool) → eq x y ≡ b → (b || is_member eq ys x) ≡ true → (is_member eq ys x ≡ true → (z : ID) × (eq x z ≡ true) × R z)
          → (z : ID) × (eq x z ≡ true) × R z
      by true t k r = (y, t, a.0)
      by false t k r = r k

  inherited_is : (x : ID) → is_member eq (voters ++ learners) x ≡ is_inherited x
  inherited_is x = list_any-append (eq x) voters learners ∙ ap (λ b. b || is_member eq learners x) (known x)

  pub none_is_below : IsLeastPassing id_cmp test (voters ++ learners) None
      → CanUpgrade eq cmp part is_voter learners default (λ x. lookup (eq x) entries)
  none_is_below a x v h i =
      let k = one_of {R = λ y. test y ≡ false} (voters ++ learners) x (inherited_is x ∙ i) a in
      AtMost-from_not_lt o (part v) (part default) (sym (ap (is_value_below cmp part (part default)) h) ∙ test_alike x k.0 k.1 ∙ k.2)

  value_there : (x : ID) (w : Option V) → lookup (eq x) entries ≡ w → is_inherited x ≡ true → test x ≡ true
      → InheritsBelow eq cmp part is_voter learners default (λ x. lookup (eq x) entries) x
  value_there x None e i h = absurd (true≢false (sym h ∙ ap (is_value_below cmp part (part default)) e))
  value_there x (Some v) e i h =
      record { inherited = i; value = v; present = e; below = sym (ap (is_value_below cmp part (part default)) e) ∙ h }

  tied_back : (x y : ID) → eq x y ≡ true → is_le (id_cmp y x) ≡ true
  tied_back x y e = by (id_cmp y x) refl
    where
      by : (r : Ordering) → id_cmp y x ≡ r → is_le r ≡ true
      by Less t = refl
      by Equal t = refl
      by Greater t = absurd (true≢false (sym (laws.symm y x ∙ e) ∙ ties y x ∙ ap Rattle.std.specs.Ordering.is_eq t))

  pub least_is_below : (id : ID) → IsLeastPassing id_cmp test (voters ++ learners) (Some id)
      → IsLeastBelow eq id_cmp cmp part is_voter learners default (λ x. lookup (eq x) entries) id
  least_is_below id a = record {
    inherits_below = value_there id (lookup (eq id) entries) refl
        (sym (inherited_is id)
        ∙ All-contains (λ y. is_member eq (voters ++ learners) y ≡ true) (voters ++ learners) id
        (All-is_member laws (voters ++ learners)) a.0)
        a.1;
    least = λ x b.
        let k = one_of {R = λ y. test y ≡ true → is_le (id_cmp id y) ≡ true} (voters ++ learners) x (inherited_is x ∙ b.inherited) a.2 in
        let passes : test x ≡ true = ap (is_value_below cmp part (part default)) b.present ∙ b.below in
        AtMost-trans io id k.0 x (k.2 (sym (test_alike x k.0 k.1) ∙ passes)) (tied_back x k.0 k.1);
  }

-- a value below the default prevents an upgrade
pub below_refuses : {ID V P : Type 0} (eq : ID → ID → Bool) (id_cmp : ID → ID → Ordering) {cmp : P → P → Ordering} (o : IsTotalOrder cmp)
    (part : V → P) (is_voter : ID → Bool) (learners : List ID) (default : V) (old : ID → Option V) (id : ID)
    → IsLeastBelow eq id_cmp cmp part is_voter learners default old id → CanUpgrade eq cmp part is_voter learners default old → ⊥
below_refuses eq id_cmp o part is_voter learners default old id b can =
    not_both o (part b.inherits_below.value) (part default) b.inherits_below.below
    (can id b.inherits_below.value b.inherits_below.present b.inherits_below.inherited)
