-- Nodes that are added or taken away one by one.
use Rattle.std.specs.Prelude.{◌≡◌, Bool, true, false, cond, ◌||◌, ◌⊎◌, Option, Some, None, List, ◌∷◌, IsTrue, is_some, refl}
use Rattle.std.proofs.Common.{◌∙◌, ap, sym, subst, inl, inr, true≢false}
use Rattle.std.specs.declared.cmp.Ordering.{Ordering}
use Rattle.std.specs.declared.cmp.Ordering.TheVariants.{Less, Equal, Greater}
use Rattle.std.specs.Cmp.{IsTotalOrder, IsEquivalence}
use Rattle.std.specs.Cmp.Lexicographic.{options_equiv}
use Rattle.std.specs.Ordering.{is_eq}
use Rattle.std.proofs.lemmas.Cmp.{eq_by_cmp_equiv, tied_itself}
use Rattle.std.specs.List.{list_any}
use Rattle.std.specs.Map.{lookup}
use Rattle.std.specs.BTreeMap.{is_at}
use Rattle.std.specs.Option.{option_eq, option_or}

pub option_alike : {N : Type 0} {same : N → N → Bool} → IsEquivalence same → (x : Option N) → IsTrue (option_eq same x x)
option_alike laws None = refl
option_alike laws (Some x) = laws.refl x

-- equality of optional values is transitive
pub option_trans : {N : Type 0} {same : N → N → Bool} → IsEquivalence same → (x y z : Option N) → IsTrue (option_eq same x y)
    → IsTrue (option_eq same y z) → IsTrue (option_eq same x z)
option_trans laws x y z h k = (options_equiv laws).congr x y z h ∙ k

pub is_equal : (c : Ordering) → is_eq c ≡ true → c ≡ Equal
is_equal Less h = cc
is_equal Equal h = refl
is_equal Greater h = cc

some_first : {N : Type 0} (v a b : Option N) → is_some v ≡ true → option_or v a ≡ option_or v b
some_first None a b h = cc
some_first (Some v) a b h = refl

none_first : {N : Type 0} (v a : Option N) → is_some v ≡ false → option_or v a ≡ a
none_first None a h = refl
none_first (Some v) a h = cc

pub or_none : {N : Type 0} (v : Option N) → option_or v None ≡ v
or_none None = refl
or_none (Some v) = refl

gone_step : {N : Type 0} (a b : Bool) (v : Option N) → cond a None (cond b None v) ≡ cond (b || a) None v
gone_step true true v = refl
gone_step true false v = refl
gone_step false true v = refl
gone_step false false v = refl

flip : {K : Type 0} {cmp : K → K → Ordering} → IsTotalOrder cmp → (q x : K) → is_at (cmp q) x ≡ is_at (cmp x) q
flip o q x = (eq_by_cmp_equiv o).symm q x

module _ {K N : Type 0} {cmp : K → K → Ordering} (o : IsTotalOrder cmp) where
  -- equal ids have the same node
  pub alike_at : (es : List (K × N)) (q x : K) → is_at (cmp q) x ≡ true → lookup (is_at (cmp q)) es ≡ lookup (is_at (cmp x)) es
  alike_at es q x h = λ i. lookup (λ k. is_eq (o.congr q x k (is_equal (cmp q x) h) i)) es

  there_step : (es rest : List (K × N)) (x : K × N) (q : K) (b : Bool) → is_at (cmp q) x.0 ≡ b
      → is_some (lookup (is_at (cmp x.0)) es) ≡ true
      → option_or (lookup (is_at (cmp q)) es) (cond b (Some x.1) (lookup (is_at (cmp q)) rest))
      ≡ option_or (lookup (is_at (cmp q)) es) (lookup (is_at (cmp q)) rest)
  there_step es rest x q true e h = some_first (lookup (is_at (cmp q)) es) _ _ (ap is_some (alike_at es q x.0 e) ∙ h)
  there_step es rest x q false e h = refl

  -- an entry whose id is in the list adds nothing
  pub add_there : (es rest : List (K × N)) (x : K × N) → is_some (lookup (is_at (cmp x.0)) es) ≡ true → (q : K)
      → option_or (lookup (is_at (cmp q)) es) (lookup (is_at (cmp q)) (x ∷ rest))
      ≡ option_or (lookup (is_at (cmp q)) es) (lookup (is_at (cmp q)) rest)
  add_there es rest x h q = there_step es rest x q (is_at (cmp q) x.0) refl h

  module _ {same : N → N → Bool} (laws : IsEquivalence same) where
    new_step : (es fs rest : List (K × N)) (x : K × N) (w : N) (q : K) (b : Bool) → is_at (cmp q) x.0 ≡ b → same w x.1 ≡ true
        → is_some (lookup (is_at (cmp x.0)) es) ≡ false → lookup (is_at (cmp q)) fs ≡ cond b (Some w) (lookup (is_at (cmp q)) es)
        → IsTrue (option_eq same (option_or (lookup (is_at (cmp q)) fs) (lookup (is_at (cmp q)) rest))
        (option_or (lookup (is_at (cmp q)) es) (cond b (Some x.1) (lookup (is_at (cmp q)) rest))))
    new_step es fs rest x w q true e s h u =
        rw (u, none_first (lookup (is_at (cmp q)) es) (Some x.1) (ap is_some (alike_at es q x.0 e) ∙ h)) s
    new_step es fs rest x w q false e s h u = rw u (option_alike laws (option_or (lookup (is_at (cmp q)) es) (lookup (is_at (cmp q)) rest)))

    -- a copy of an entry whose id is absent is added
    pub add_new : (es fs rest : List (K × N)) (x : K × N) (w : N) → same w x.1 ≡ true → is_some (lookup (is_at (cmp x.0)) es) ≡ false
        → ((q : K) → lookup (is_at (cmp q)) fs ≡ cond (is_at (cmp x.0) q) (Some w) (lookup (is_at (cmp q)) es)) → (q : K)
        → IsTrue (option_eq same (option_or (lookup (is_at (cmp q)) fs) (lookup (is_at (cmp q)) rest))
        (option_or (lookup (is_at (cmp q)) es) (lookup (is_at (cmp q)) (x ∷ rest))))
    add_new es fs rest x w s h u q = new_step es fs rest x w q (is_at (cmp q) x.0) refl s h
        (u q ∙ ap (λ b. cond b (Some w) (lookup (is_at (cmp q)) es)) (flip o x.0 q))

  -- the rest of the list has the first entry's node at its id
  head_at : (x : K × N) (rest : List (K × N)) → lookup (is_at (cmp x.0)) (x ∷ rest) ≡ Some x.1
  head_at x rest = rw (tied_itself o x.0) refl

  -- if an id that is still to come has no node yet, one of the two lists has a node at it
  pub either_has : (same : N → N → Bool) (now given more : List (K × N)) (x : K × N) (rest : List (K × N))
      → is_some (lookup (is_at (cmp x.0)) now) ≡ false
      → IsTrue (option_eq same (option_or (lookup (is_at (cmp x.0)) now) (lookup (is_at (cmp x.0)) (x ∷ rest)))
      (option_or (lookup (is_at (cmp x.0)) given) (lookup (is_at (cmp x.0)) more)))
      → IsTrue (is_some (lookup (is_at (cmp x.0)) given)) ⊎ IsTrue (is_some (lookup (is_at (cmp x.0)) more))
  either_has same now given more x rest gone e =
      by (lookup (is_at (cmp x.0)) now) (lookup (is_at (cmp x.0)) given) (lookup (is_at (cmp x.0)) more) gone
      (subst (λ (v : Option N). IsTrue (option_eq same (option_or (lookup (is_at (cmp x.0)) now) v)
      (option_or (lookup (is_at (cmp x.0)) given) (lookup (is_at (cmp x.0)) more)))) (head_at x rest) e)
    where
      by : (n g m : Option N) → is_some n ≡ false → IsTrue (option_eq same (option_or n (Some x.1)) (option_or g m))
          → IsTrue (is_some g) ⊎ IsTrue (is_some m)
      by (Some y) g m h q = absurd (true≢false h)
      by None (Some y) m h q = inl refl
      by None None (Some y) h q = inr refl
      by None None None h q = absurd (true≢false (sym q))

  -- a node at an id stays if another one is inserted
  pub has_still : (es fs : List (K × N)) (x q : K) (w : N)
      → lookup (is_at (cmp q)) fs ≡ cond (is_at (cmp x) q) (Some w) (lookup (is_at (cmp q)) es)
      → IsTrue (is_some (lookup (is_at (cmp q)) es)) → IsTrue (is_some (lookup (is_at (cmp q)) fs))
  has_still es fs x q w is there = subst (λ (v : Option N). IsTrue (is_some v)) (sym is) (by (is_at (cmp x) q) there)
    where
      by : (b : Bool) → IsTrue (is_some (lookup (is_at (cmp q)) es)) → IsTrue (is_some (cond b (Some w) (lookup (is_at (cmp q)) es)))
      by true h = refl
      by false h = h

  -- one more id is removed
  pub remove_next : (es fs : List (K × N)) (x : K) (rest : List K)
      → ((q : K) → lookup (is_at (cmp q)) fs ≡ cond (is_at (cmp x) q) None (lookup (is_at (cmp q)) es)) → (q : K)
      → cond (list_any (is_at (cmp q)) rest) None (lookup (is_at (cmp q)) fs)
      ≡ cond (list_any (is_at (cmp q)) (x ∷ rest)) None (lookup (is_at (cmp q)) es)
  remove_next es fs x rest u q =
      ap (λ v. cond (list_any (is_at (cmp q)) rest) None v) (u q ∙ ap (λ b. cond b None (lookup (is_at (cmp q)) es)) (flip o x q))
      ∙ gone_step (list_any (is_at (cmp q)) rest) (is_at (cmp q) x) (lookup (is_at (cmp q)) es)

-- nodes that equal others, with more added
pub option_or_alike : {N : Type 0} {same : N → N → Bool} → IsEquivalence same → (a b c : Option N) → IsTrue (option_eq same a b)
    → IsTrue (option_eq same (option_or a c) (option_or b c))
option_or_alike laws None None c h = option_alike laws c
option_or_alike laws None (Some y) c h = cc
option_or_alike laws (Some x) None c h = cc
option_or_alike laws (Some x) (Some y) c h = h
