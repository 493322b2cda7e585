-- Lists in order, and their halves.
use Rattle.std.specs.Prelude.{◌≡◌, ℕ, zero, suc, ◌+◌, ◌<◌, ◌≤◌, Bool, true, false, ◌||◌, List, [], ◌∷◌, length, take, drop}
use Rattle.std.specs.Cmp.{IsTotalOrder}
use Rattle.std.specs.List.{AllAdjacentBelow, list_any}
use Rattle.std.specs.List.Sorted.{IsSorted, IsStrictlySortedBy}
use Rattle.std.specs.Ordering.{eq_by_cmp, is_eq, is_le, is_lt, is_some_and, ordering_reverse}
use Rattle.std.specs.declared.cmp.Ordering.{Ordering}
use Rattle.std.specs.declared.cmp.Ordering.TheVariants.{Less, Equal, Greater}
use Rattle.std.proofs.Common.{arith, sym, ap, refl, ◌∙◌, true≢false, get_or, Option, Some}
use Rattle.std.proofs.Math.Bool.{or-false, or-true}
use Rattle.std.proofs.lemmas.List.{length-take-le, length-drop, get_or-take, get_or-drop, get_or_default, take-append-drop}
use Rattle.std.proofs.lemmas.List.Folds.{list_any-append, list_any_at}
use Rattle.std.proofs.lemmas.List.Sorted.{ranks_by, sorted_far}
use Rattle.std.proofs.lemmas.Map.Keys.{Less-from_sorted}

-- if each element fails, none passes
none_passes : {X : Type 0} (p : X → Bool) (xs : List X) → ((i : ℕ) (d : X) → i < length xs → p (get_or xs i d) ≡ false)
    → list_any p xs ≡ false
none_passes p [] h = refl
none_passes p (x ∷ xs) h =
    ap (λ b. b || list_any p xs) (h zero x (omega arith)) ∙ none_passes p xs (λ i d l. h (suc i) d (omega arith))

-- what does not compare as equal is no tie
no_tie : (o : Ordering) → (o ≡ Equal → true ≡ false) → is_eq o ≡ false
no_tie Less h = refl
no_tie Equal h = h refl
no_tie Greater h = refl

-- if the first of two is at most the second, the second is not less
not_less : (o : Ordering) → is_le o ≡ true → is_lt (ordering_reverse o) ≡ false
not_less Less h = refl
not_less Equal h = refl
not_less Greater h = sym h

module _ {K : Type 0} {cmp : K → K → Ordering} (total : IsTotalOrder cmp) where
  -- a list whose elements ascend is in order
  pub sorted_from_ascending : (xs : List K) → IsStrictlySortedBy cmp xs → IsSorted cmp xs
  sorted_from_ascending xs up k d low m =
      let less = Less-from_sorted cmp xs k (k + 1) d up (omega arith) m in
      ap is_lt (total.antisymm (get_or xs (k + 1) d) (get_or xs k d) ∙ ap ordering_reverse less)

  -- so is one in which each element is at most the next
  pub sorted_from_adjacent : (compare : K → K → Option Ordering) → ((x y : K) → compare x y ≡ Some (cmp x y)) → (xs : List K)
      → AllAdjacentBelow (λ x y. is_some_and is_le (compare x y) ≡ true) xs (length xs) → IsSorted cmp xs
  sorted_from_adjacent compare agrees xs up k d low m =
      let x = get_or xs k d in
      let y = get_or xs (k + 1) d in
      ap is_lt (total.antisymm y x) ∙ not_less (cmp x y) (ap (is_some_and is_le) (sym (agrees x y)) ∙ up k d m)

  module _ {eq : K → K → Bool} (ties : (x y : K) → eq x y ≡ eq_by_cmp cmp x y) (xs : List K) (id : K) (n : ℕ) (middle : K)
      (within : n < length xs) (is : middle ≡ get_or (drop n xs) 0 middle) (up : IsSorted cmp xs) where
    abbrev has : List K → Bool
    has = list_any (λ y. eq y id)

    split : has xs ≡ (has (take n xs) || has (drop n xs))
    split = ap has (sym (take-append-drop n xs)) ∙ list_any-append (λ y. eq y id) (take n xs) (drop n xs)

    middle_at : (d : K) → get_or xs n d ≡ middle
    middle_at d =
        let start : n ≡ n + 0 = omega arith in
        get_or_default xs n d middle within ∙ ap (λ i. get_or xs i middle) start ∙ sym (get_or-drop n xs 0 middle) ∙ sym is

    -- in a list in order, no element is less than one before it
    far : (i j : ℕ) (d : K) → i ≤ j → j < length xs → is_lt (cmp (get_or xs j d) (get_or xs i d)) ≡ false
    far = sorted_far (λ x y. is_lt (cmp x y)) (ranks_by total (λ y. y)) xs up

    -- an id below the middle one is in the front if it is in the list
    pub front_has : is_lt (cmp id middle) ≡ true → has (take n xs) ≡ has xs
    front_has less = sym (split ∙ ap (λ b. has (take n xs) || b) none ∙ or-false (has (take n xs)))
      where
        apart : (y : K) → is_lt (cmp y middle) ≡ false → eq y id ≡ false
        apart y at_least =
            ties y id ∙ no_tie (cmp y id) (λ e. sym (ap is_lt (total.congr y id middle e) ∙ less) ∙ at_least)

        none : has (drop n xs) ≡ false
        none = none_passes (λ y. eq y id) (drop n xs) (λ i d l.
            ap (λ y. eq y id) (get_or-drop n xs i d)
            ∙ apart (get_or xs (n + i) d) (ap (λ y. is_lt (cmp (get_or xs (n + i) d) y)) (sym (middle_at d))
            ∙ far n (n + i) d (omega arith) (omega (arith, length-drop n xs))))

    -- any other id is in the back if it is in the list
    pub back_has : is_lt (cmp id middle) ≡ false → has (drop n xs) ≡ has xs
    back_has not_below = by (cmp id middle) refl not_below
      where
        at_middle : cmp id middle ≡ Equal → has (drop n xs) ≡ true
        at_middle e =
            let found : eq (get_or (drop n xs) 0 middle) id ≡ true =
            ap (λ y. eq y id) (sym is)
            ∙ ties middle id ∙ ap is_eq (total.antisymm middle id ∙ ap ordering_reverse e) in
            list_any_at (λ y. eq y id) (drop n xs) 0 middle (omega (arith, length-drop n xs)) found

        apart : cmp id middle ≡ Greater → (y : K) → is_lt (cmp middle y) ≡ false → eq y id ≡ false
        apart e y at_most =
            ties y id
            ∙ no_tie (cmp y id)
            (λ t. sym (ap is_lt (total.antisymm middle y ∙ ap ordering_reverse (total.congr y id middle t ∙ e))) ∙ at_most)

        none : cmp id middle ≡ Greater → has (take n xs) ≡ false
        none e = none_passes (λ y. eq y id) (take n xs) (λ i d l.
            let n_is = length-take-le n xs (omega arith) in
            ap (λ y. eq y id) (get_or-take n xs i d (omega arith))
            ∙ apart e (get_or xs i d) (ap (λ y. is_lt (cmp y (get_or xs i d))) (sym (middle_at d)) ∙ far i n d (omega arith) within))

        by : (o : Ordering) → cmp id middle ≡ o → is_lt o ≡ false → has (drop n xs) ≡ has xs
        by Less e h = absurd (true≢false h)
        by Equal e h = at_middle e ∙ sym (split ∙ ap (λ b. has (take n xs) || b) (at_middle e) ∙ or-true (has (take n xs)))
        by Greater e h = sym (split ∙ ap (λ b. b || has (drop n xs)) (none e))
