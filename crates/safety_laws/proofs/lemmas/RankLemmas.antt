-- Terms of a total order have ranks.
use Rattle.std.specs.Prelude.{◌≡◌, ◌<◌, ◌≤◌, ℕ, suc, Bool, true, false, if◌then◌else◌, List, [], ◌∷◌}
use Rattle.std.specs.Cmp.{IsTotalOrder}
use Rattle.std.specs.Ordering.{is_lt, ordering_reverse}
use Rattle.std.specs.declared.cmp.Ordering.{Ordering}
use Rattle.std.specs.declared.cmp.Ordering.TheVariants.{Less, Equal, Greater}
use Rattle.std.proofs.Common.{refl, sym, ap, ◌∙◌, inl, inr, arith}
use Rattle.std.proofs.lemmas.Bool.{false≢true}
use Rattle.safety_laws.specs.Ranks.{IsAmong, RanksAs, rank_in}

less_of : (o : Ordering) → is_lt o ≡ true → o ≡ Less
less_of Less e = refl
less_of Equal e = absurd (cc)
less_of Greater e = absurd (cc)

not_less : (o : Ordering) → o ≡ ordering_reverse o → is_lt o ≡ false
not_less Less e = absurd (cc)
not_less Equal e = refl
not_less Greater e = refl

not_both : (o : Ordering) → is_lt o ≡ false → is_lt (ordering_reverse o) ≡ false → o ≡ Equal
not_both Less e f = absurd (cc)
not_both Equal e f = refl
not_both Greater e f = absurd (cc)

module _ {T : Type 0} {cmp : T → T → Ordering} (total : IsTotalOrder cmp)
    (same : (x y : T) → cmp x y ≡ Equal → x ≡ y) where
  abbrev lt : T → T → Bool
  lt x y = is_lt (cmp x y)

  irreflexive : (x : T) → lt x x ≡ false
  irreflexive x = not_less (cmp x x) (total.antisymm x x)

  transitive : (x y z : T) → lt x y ≡ true → lt y z ≡ true → lt x z ≡ true
  transitive x y z e f =
      ap is_lt (total.trans x y z (less_of (cmp x y) e) (less_of (cmp y z) f))

  neither : (x y : T) → lt x y ≡ false → lt y x ≡ false → x ≡ y
  neither x y e f =
      same x y (not_both (cmp x y) e (ap is_lt (sym (total.antisymm y x)) ∙ f))

  by_head : (a b : Bool) (n m : ℕ) → (a ≡ true → b ≡ true) → n ≤ m
      → (if a then suc n else n) ≤ (if b then suc m else m)
  by_head true true n m i le = omega arith
  by_head true false n m i le = absurd (false≢true (i refl))
  by_head false true n m i le = omega arith
  by_head false false n m i le = le

  by_head_less : (a b : Bool) (n m : ℕ) → (a ≡ true → b ≡ true) → n < m
      → (if a then suc n else n) < (if b then suc m else m)
  by_head_less true true n m i le = omega arith
  by_head_less true false n m i le = absurd (false≢true (i refl))
  by_head_less false true n m i le = omega arith
  by_head_less false false n m i le = le

  at_head : (a b : Bool) (n m : ℕ) → a ≡ false → b ≡ true → n ≤ m
      → (if a then suc n else n) < (if b then suc m else m)
  at_head a b n m e f le = rw (e, f) (omega arith)

  monotone : (used : List T) (t u : T) → lt t u ≡ true → rank_in cmp used t ≤ rank_in cmp used u
  monotone [] t u e = omega arith
  monotone (x ∷ used) t u e =
      by_head (lt x t) (lt x u) (rank_in cmp used t) (rank_in cmp used u)
      (λ f. transitive x t u f e) (monotone used t u e)

  strictly : (used : List T) (t u : T) → IsAmong t used → lt t u ≡ true
      → rank_in cmp used t < rank_in cmp used u
  strictly [] t u i e = absurd i
  strictly (x ∷ used) t u (inl is) e =
      at_head (lt x t) (lt x u) (rank_in cmp used t) (rank_in cmp used u)
      (ap (λ (y : T). lt y t) (sym is) ∙ irreflexive t) (ap (λ (y : T). lt y u) (sym is) ∙ e)
      (monotone used t u e)
  strictly (x ∷ used) t u (inr i) e =
      by_head_less (lt x t) (lt x u) (rank_in cmp used t) (rank_in cmp used u)
      (λ f. transitive x t u f e) (strictly used t u i e)

  one : (used : List T) (t u : T) → IsAmong t used → IsAmong u used
      → rank_in cmp used t ≡ rank_in cmp used u → t ≡ u
  one used t u i k e = go (lt t u) refl (lt u t) refl
    where
      go : (a : Bool) → lt t u ≡ a → (b : Bool) → lt u t ≡ b → t ≡ u
      go true f b g = absurd (omega (arith, strictly used t u i f, e))
      go false f true g = absurd (omega (arith, strictly used u t k g, e))
      go false f false g = neither t u f g

  pub ranked : (used : List T) → RanksAs cmp used
  ranked used = record { monotone = monotone used; strictly = strictly used; one = one used }
