-- Default nodes that are put in one by one.
use Rattle.std.specs.Prelude.{◌≡◌, ℕ, ◌+◌, ◌<◌, Bool, true, false, cond, ◌||◌, Option, Some, None, List, length, take, is_some, refl}
use Rattle.std.proofs.Common.{sym, ◌∙◌, ap, subst, get_or}
use Rattle.std.proofs.Math.Bool.{or-false}
use Rattle.std.specs.declared.cmp.Ordering.{Ordering}
use Rattle.std.specs.Cmp.{IsTotalOrder}
use Rattle.std.specs.Set.{is_member}
use Rattle.std.specs.Ordering.{eq_by_cmp}
use Rattle.std.specs.Map.{lookup}
use Rattle.std.specs.BTreeMap.{is_at}
use Rattle.std.proofs.lemmas.Cmp.{eq_by_cmp_equiv}
use Rattle.raft_members.proofs.lemmas.membership.AddedLemmas.{alike_at}
use Rattle.raft_members.proofs.lemmas.membership.MappedLemmas.{any_more}
use Rattle.raft_members.specs.membership.Defaults.{WithDefault}

module _ {N : Type 0} (is_default : N → Type 0) where
  pub at_start : (a : Option N) → WithDefault is_default a false a
  at_start None = refl
  at_start (Some n) = refl

  kept_asked : (a o : Option N) (v : Bool) → is_some o ≡ true → WithDefault is_default a v o → WithDefault is_default a (v || true) o
  kept_asked (Some n) o v h w = w
  kept_asked None (Some d) true h w = w
  kept_asked None (Some d) false h w = cc
  kept_asked None None v h w = cc

  made_asked : (a o : Option N) (v : Bool) (d : N) → is_some o ≡ false → is_default d → WithDefault is_default a v o
      → WithDefault is_default a (v || true) (Some d)
  made_asked (Some n) o v d h p w = let c = ap is_some w in cc
  made_asked None o true d h p w = p
  made_asked None o false d h p w = p

  module _ {K : Type 0} {eq : K → K → Bool} {cmp : K → K → Ordering} (o : IsTotalOrder cmp) (ties : (x y : K) → eq x y ≡ eq_by_cmp cmp x y)
      (es : List (K × N)) (a : Option N) (ids : List K) (i : ℕ) (x : K) (h : i < length ids) (is : x ≡ get_or ids i x) (q : K) where
    -- the first i + 1 ids have what the first i ids have, and the next one
    one_more : (is_member eq (take i ids) q || is_at (cmp q) x) ≡ is_member eq (take (i + 1) ids) q
    one_more = sym (any_more (eq q) ids i x h (sym is) ∙ ap (λ b. is_member eq (take i ids) q || b) (ties q x))

    there_by : (v b : Bool) → is_at (cmp q) x ≡ b → is_some (lookup (is_at (cmp x)) es) ≡ true
        → WithDefault is_default a v (lookup (is_at (cmp q)) es) → WithDefault is_default a (v || b) (lookup (is_at (cmp q)) es)
    there_by v true e t w = kept_asked a (lookup (is_at (cmp q)) es) v (ap is_some (alike_at o es q x e) ∙ t) w
    there_by v false e t w = subst (λ (b : Bool). WithDefault is_default a b (lookup (is_at (cmp q)) es)) (sym (or-false v)) w

    -- an id that has a node keeps it
    pub default_there : is_some (lookup (is_at (cmp x)) es) ≡ true
        → WithDefault is_default a (is_member eq (take i ids) q) (lookup (is_at (cmp q)) es)
        → WithDefault is_default a (is_member eq (take (i + 1) ids) q) (lookup (is_at (cmp q)) es)
    default_there t w =
        subst (λ (b : Bool). WithDefault is_default a b (lookup (is_at (cmp q)) es)) one_more
        (there_by (is_member eq (take i ids) q) (is_at (cmp q) x) refl t w)

    made_by : (v b : Bool) (d : N) (n : Option N) → is_at (cmp q) x ≡ b → is_some (lookup (is_at (cmp x)) es) ≡ false → is_default d
        → n ≡ cond b (Some d) (lookup (is_at (cmp q)) es) → WithDefault is_default a v (lookup (is_at (cmp q)) es)
        → WithDefault is_default a (v || b) n
    made_by v true d n e t p u w = subst (λ (m : Option N). WithDefault is_default a (v || true) m) (sym u)
        (made_asked a (lookup (is_at (cmp q)) es) v d (ap is_some (alike_at o es q x e) ∙ t) p w)
    made_by v false d n e t p u w = subst (λ (m : Option N). WithDefault is_default a (v || false) m) (sym u)
        (subst (λ (b : Bool). WithDefault is_default a b (lookup (is_at (cmp q)) es)) (sym (or-false v)) w)

    -- an id that has none gets a default one
    pub default_made : (fs : List (K × N)) (d : N) → is_some (lookup (is_at (cmp x)) es) ≡ false → is_default d
        → ((k : K) → lookup (is_at (cmp k)) fs ≡ cond (is_at (cmp x) k) (Some d) (lookup (is_at (cmp k)) es))
        → WithDefault is_default a (is_member eq (take i ids) q) (lookup (is_at (cmp q)) es)
        → WithDefault is_default a (is_member eq (take (i + 1) ids) q) (lookup (is_at (cmp q)) fs)
    default_made fs d t p u w =
        subst (λ (b : Bool). WithDefault is_default a b (lookup (is_at (cmp q)) fs)) one_more
        (made_by (is_member eq (take i ids) q) (is_at (cmp q) x) d (lookup (is_at (cmp q)) fs) refl t p
        (u q ∙ ap (λ b. cond b (Some d) (lookup (is_at (cmp q)) es)) ((eq_by_cmp_equiv o).symm x q)) w)
