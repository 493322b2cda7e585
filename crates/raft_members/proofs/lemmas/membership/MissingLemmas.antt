-- The first voter without a node: of one config in order, and of two sets together.
use Rattle.std.proofs.lemmas.Bool.{or_left, or_right}
use Rattle.std.specs.Prelude.{◌≡◌, ℕ, Bool, true, false, cond, not, ◌||◌, Option, Some, None, List, [], ◌∷◌, refl}
use Rattle.std.specs.Prelude.{◌+◌, ◌<◌, length, map, take}
use Rattle.std.proofs.Common.{sym, ◌∙◌, ap, subst, get_or}
use Rattle.raft_members.specs.quorum.Majority.{is_voter_of}
use Rattle.raft_members.proofs.lemmas.membership.MappedLemmas.{list_any-map, any_more}
use Rattle.raft_members.specs.Inner.Nodes.{lesser}
use Rattle.raft_members.specs.membership.Valid.{FirstUnknown, IsFirstUnknown}
use Rattle.raft_members.proofs.lemmas.membership.AddedLemmas.{is_equal}
use Rattle.std.specs.declared.cmp.Ordering.{Ordering}
use Rattle.std.specs.declared.cmp.Ordering.TheVariants.{Less, Equal, Greater}
use Rattle.std.specs.Cmp.{IsTotalOrder, IsEquivalence}
use Rattle.std.specs.Ordering.{eq_by_cmp, is_lt, is_eq, ordering_reverse}
use Rattle.std.specs.List.{find, AllByRecursion}
use Rattle.std.specs.List.Sorted.{IsStrictlySortedBy}
use Rattle.std.specs.Set.{is_member}
use Rattle.std.proofs.lemmas.Map.Keys.{sorted_head, sorted_tail}

module _ {K : Type 0} {eq : K → K → Bool} {cmp : K → K → Ordering} (laws : IsEquivalence eq) (o : IsTotalOrder cmp)
    (ties : (x y : K) → eq x y ≡ eq_by_cmp cmp x y) where
  not_below : (c : Ordering) → is_eq c ≡ true → is_lt c ≡ false
  not_below Less h = cc
  not_below Equal h = refl
  not_below Greater h = cc

  greater_not_below : (k x : K) → cmp x k ≡ Less → is_lt (cmp k x) ≡ false
  greater_not_below k x h = let e : cmp k x ≡ Greater = o.antisymm k x ∙ ap ordering_reverse h in rw e refl

  -- a member of a list that is above x is not below x
  above_step : (x y k : K) (ys : List K) (b : Bool) → eq k y ≡ b → cmp x y ≡ Less → (is_member eq ys k ≡ true → is_lt (cmp k x) ≡ false)
      → (b || is_member eq ys k) ≡ true → is_lt (cmp k x) ≡ false
  above_step x y k ys true e h next m = ap is_lt (o.congr k y x (is_equal (cmp k y) (sym (ties k y) ∙ e))) ∙ greater_not_below y x h
  above_step x y k ys false e h next m = next m

  above : (x k : K) (ys : List K) → AllByRecursion (λ y. cmp x y ≡ Less) ys → is_member eq ys k ≡ true → is_lt (cmp k x) ≡ false
  above x k [] h m = cc
  above x k (y ∷ ys) h m = above_step x y k ys (eq k y) refl h.0 (above x k ys h.1) m

  module _ (known : K → Bool) (alike : (x y : K) → eq x y ≡ true → known x ≡ known y) where
    none_step : (x k : K) (xs : List K) (b : Bool) → eq k x ≡ b → known x ≡ true → (is_member eq xs k ≡ true → known k ≡ true)
        → (b || is_member eq xs k) ≡ true → known k ≡ true
    none_step x k xs true e h next m = alike k x e ∙ h
    none_step x k xs false e h next m = next m

    least_here : (x k : K) (xs : List K) (b : Bool) → eq k x ≡ b → AllByRecursion (λ y. cmp x y ≡ Less) xs → (b || is_member eq xs k) ≡ true
        → is_lt (cmp k x) ≡ false
    least_here x k xs true e h m = not_below (cmp k x) (sym (ties k x) ∙ e)
    least_here x k xs false e h m = above x k xs h m

    least_later : (x k id : K) (xs : List K) (b : Bool) → eq k x ≡ b → known x ≡ true → known k ≡ false
        → (is_member eq xs k ≡ true → is_lt (cmp k id) ≡ false) → (b || is_member eq xs k) ≡ true → is_lt (cmp k id) ≡ false
    least_later x k id xs true e h u next m = let c : known k ≡ true = alike k x e ∙ h in cc
    least_later x k id xs false e h u next m = next m

    later : (x : K) (xs : List K) → known x ≡ true → (f : Option K) → FirstUnknown cmp (is_member eq xs) known f
        → FirstUnknown cmp (is_member eq (x ∷ xs)) known f
    later x xs h None n = λ k m. none_step x k xs (eq k x) refl h (n k) m
    later x xs h (Some id) n = record {
      is_voter = or_right _ _ n.is_voter;
      is_unknown = n.is_unknown;
      is_least = λ k m u. least_later x k id xs (eq k x) refl h u (λ m'. n.is_least k m' u) m;
    }

    find_step : (x : K) (xs : List K) (b : Bool) → known x ≡ b → AllByRecursion (λ y. cmp x y ≡ Less) xs
        → FirstUnknown cmp (is_member eq xs) known (find (λ q. not (known q)) xs)
        → FirstUnknown cmp (is_member eq (x ∷ xs)) known (cond (not b) (Some x) (find (λ q. not (known q)) xs))
    find_step x xs true h a n = later x xs h _ n
    find_step x xs false h a n = record {
      is_voter = or_left _ _ (laws.refl x);
      is_unknown = h;
      is_least = λ k m u. least_here x k xs (eq k x) refl a m;
    }

    -- the first of a list in order
    pub find_first : (xs : List K) → IsStrictlySortedBy cmp xs → FirstUnknown cmp (is_member eq xs) known (find (λ q. not (known q)) xs)
    find_first [] s = λ k m. cc
    find_first (x ∷ xs) s = find_step x xs (known x) refl (sorted_head cmp x xs s) (find_first xs (sorted_tail cmp x xs s))

-- ---- the first of two sets together

module _ {K : Type 0} {cmp : K → K → Ordering} (o : IsTotalOrder cmp) (v w known : K → Bool) where
  either : (P : Type 0) (a b : Bool) → (a ≡ true → P) → (b ≡ true → P) → (a || b) ≡ true → P
  either P true b f g h = f refl
  either P false b f g h = g h

  is_less : (c : Ordering) → is_lt c ≡ true → c ≡ Less
  is_less Less h = refl
  is_less Equal h = cc
  is_less Greater h = cc

  -- what is not below x is not below a lesser y
  not_below_lower : (k x y : K) (c : Ordering) → cmp k y ≡ c → is_lt (cmp y x) ≡ true → is_lt (cmp k x) ≡ false → is_lt (cmp k y) ≡ false
  not_below_lower k x y Less e h u = let t : cmp k x ≡ Less = o.trans k y x e (is_less (cmp y x) h) in let t' = ap is_lt t in cc
  not_below_lower k x y Equal e h u = ap is_lt e
  not_below_lower k x y Greater e h u = ap is_lt e

  -- what is not below y, which is not below x, is not below x
  not_below_higher : (k x y : K) (c d : Ordering) → cmp k y ≡ c → cmp k x ≡ d → is_lt (cmp y x) ≡ false → is_lt (cmp k y) ≡ false
      → is_lt (cmp k x) ≡ false
  not_below_higher k x y Less d e f h u = let t = ap is_lt e in cc
  not_below_higher k x y Equal d e f h u = ap is_lt (o.congr k y x e) ∙ h
  not_below_higher k x y Greater Less e f h u =
      let a : cmp y k ≡ Less = o.antisymm y k ∙ ap ordering_reverse e in
      let t : cmp y x ≡ Less = o.trans y k x a f in
      let t' = ap is_lt t in cc
  not_below_higher k x y Greater Equal e f h u = ap is_lt f
  not_below_higher k x y Greater Greater e f h u = ap is_lt f

  pick : (x y : K) (b : Bool) → is_lt (cmp y x) ≡ b → IsFirstUnknown cmp v known x → IsFirstUnknown cmp w known y
      → FirstUnknown cmp (λ k. v k || w k) known (cond b (Some y) (Some x))
  pick x y true h f g = record {
    is_voter = or_right _ _ g.is_voter;
    is_unknown = g.is_unknown;
    is_least = λ k m u. either _ (v k) (w k) (λ e. not_below_lower k x y (cmp k y) refl h (f.is_least k e u)) (λ e. g.is_least k e u) m;
  }
  pick x y false h f g = record {
    is_voter = or_left _ _ f.is_voter;
    is_unknown = f.is_unknown;
    is_least = λ k m u. either _ (v k) (w k) (λ e. f.is_least k e u)
        (λ e. not_below_higher k x y (cmp k y) (cmp k x) refl refl h (g.is_least k e u)) m;
  }

  pub lesser_first : (a b : Option K) → FirstUnknown cmp v known a → FirstUnknown cmp w known b
      → FirstUnknown cmp (λ k. v k || w k) known (lesser cmp a b)
  lesser_first None None f g = λ k m. either _ (v k) (w k) (f k) (g k) m
  lesser_first None (Some y) f g = record {
    is_voter = or_right _ _ g.is_voter;
    is_unknown = g.is_unknown;
    is_least = λ k m u. either _ (v k) (w k) (λ e. let c = f k e in cc) (λ e. g.is_least k e u) m;
  }
  lesser_first (Some x) None f g = record {
    is_voter = or_left _ _ f.is_voter;
    is_unknown = f.is_unknown;
    is_least = λ k m u. either _ (v k) (w k) (λ e. f.is_least k e u) (λ e. let c = g k e in cc) m;
  }
  lesser_first (Some x) (Some y) f g = pick x y (is_lt (cmp y x)) refl f g

-- ---- one more config

module _ {K X : Type 0} {eq : K → K → Bool} {cmp : K → K → Ordering} (laws : IsEquivalence eq) (o : IsTotalOrder cmp)
    (ties : (x y : K) → eq x y ≡ eq_by_cmp cmp x y) (known : K → Bool) (alike : (x y : K) → eq x y ≡ true → known x ≡ known y)
    (f : X → List K) where
  more_voters : (xs : List X) (i : ℕ) (x : X) → i < length xs → get_or xs i x ≡ x → (k : K)
      → (is_voter_of eq (map f (take i xs)) k || is_member eq (f x) k) ≡ is_voter_of eq (map f (take (i + 1) xs)) k
  more_voters xs i x l e k =
      ap (λ b. b || is_member eq (f x) k) (list_any-map f (λ c. is_member eq c k) (take i xs))
      ∙ sym (any_more (λ y. is_member eq (f y) k) xs i x l e)
      ∙ sym (list_any-map f (λ c. is_member eq c k) (take (i + 1) xs))

  pub one_more_first : (xs : List X) (i : ℕ) (x : X) (a : Option K) → i < length xs → get_or xs i x ≡ x → IsStrictlySortedBy cmp (f x)
      → FirstUnknown cmp (is_voter_of eq (map f (take i xs))) known a
      → FirstUnknown cmp (is_voter_of eq (map f (take (i + 1) xs))) known (lesser cmp a (find (λ q. not (known q)) (f x)))
  one_more_first xs i x a l e s h =
      subst (λ (v : K → Bool). FirstUnknown cmp v known (lesser cmp a (find (λ q. not (known q)) (f x))))
      (λ j k. more_voters xs i x l e k j)
      (lesser_first o (is_voter_of eq (map f (take i xs))) (is_member eq (f x)) known a (find (λ q. not (known q)) (f x)) h
      (find_first laws o ties known alike (f x) s))
