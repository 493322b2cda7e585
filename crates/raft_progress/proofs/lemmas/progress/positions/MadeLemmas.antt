-- The sorted ids of a progress, and the ranks of all positions.
use Rattle.std.specs.Prelude.{◌≡◌, ◌≢◌, ℕ, ◌+◌, ◌<◌, Bool, true, false, List, [], ◌∷◌, ◌++◌, length, Option, Some, None}
use Rattle.std.specs.Cmp.{IsEquivalence, IsTotalOrder}
use Rattle.std.specs.List.{IsDistinct, range_with_len, list_any}
use Rattle.std.specs.List.Sorted.{IsStrictlySortedBy, IsSortedByKey, IsPermutation}
use Rattle.std.specs.Map.{keys_of, values_of, lookup}
use Rattle.std.specs.Option.{is_some}
use Rattle.std.specs.Ordering.{eq_by_cmp, is_eq, is_lt, ordering_reverse}
use Rattle.std.specs.Set.{is_member}
use Rattle.std.specs.declared.cmp.Ordering.{Ordering}
use Rattle.std.specs.declared.cmp.Ordering.TheVariants.{Less, Equal, Greater}
use Rattle.std.proofs.Common.{arith, sym, ap, refl, ◌∙◌, subst, true≢false, get_or, set, suc, zero, inl, inr, eqb}
use Rattle.std.proofs.lemmas.Bool.{cases_eq, cases_lt, eqb-false, ne_eqb}
use Rattle.std.proofs.lemmas.List.{get_or-set_same, get_or-set_other, length-map, map-id}
use Rattle.std.proofs.lemmas.List.FromFn.{length-range_with_len, get_or-range_with_len, map-range_with_len_more}
use Rattle.std.proofs.lemmas.List.Sorted.{IsPermutation-map, All-permutation, Contains-permutation, length_permutation, list_any-IsPermutation}
use Rattle.std.proofs.lemmas.Map.Entries.{length-keys_of}
use Rattle.std.proofs.lemmas.Map.Keys.{IsDistinct-IsPermutation, IsDistinct-from_apart, apart_from_distinct, sorted_from_all_adjacent}
use Rattle.std.proofs.lemmas.Map.Made.{is_some-lookup}
use Rattle.std.proofs.lemmas.Map.Views.{lookup-from_Contains}
use Rattle.raft_progress.specs.Inner.Positions.{AreAllPositions, AreAtPositions, AreInverse}
use Rattle.raft_progress.proofs.lemmas.progress.positions.LookupLemmas.{key_at, lookup_tests}

-- within a list the default does not matter
any_default : {X : Type 0} (xs : List X) (i : ℕ) (d e : X) → i < length xs → get_or xs i d ≡ get_or xs i e
any_default [] i d e l = absurd (omega arith)
any_default (x ∷ xs) zero d e l = refl
any_default (x ∷ xs) (suc i) d e l = any_default xs i d e (omega arith)

-- an entry is its id and its position
entry_at : {ID : Type 0} (es : List (ID × ℕ)) (i : ℕ) (d : ID × ℕ) (x : ID) (v : ℕ) → i < length es
    → get_or es i d ≡ (get_or (keys_of es) i x, get_or (values_of es) i v)
entry_at [] i d x v l = absurd (omega arith)
entry_at (e ∷ es) zero d x v l = refl
entry_at (e ∷ es) (suc i) d x v l = entry_at es i d x v (omega arith)

pub position_at : {ID : Type 0} (es : List (ID × ℕ)) (i : ℕ) (d : ID × ℕ) (v : ℕ) → i < length es
    → (get_or es i d).1 ≡ get_or (values_of es) i v
position_at [] i d v l = absurd (omega arith)
position_at (e ∷ es) zero d v l = refl
position_at (e ∷ es) (suc i) d v l = position_at es i d v (omega arith)

none_from : (o : Option ℕ) → is_some o ≡ false → o ≡ None
none_from (Some v) h = absurd (true≢false h)
none_from None h = refl

eqb_flips : (x y : ℕ) → eqb x y ≡ eqb y x
eqb_flips x y = elim (cases_eq x y) [
  | inl e ↦ ap (λ z. eqb z y) e ∙ ap (eqb y) (sym e)
  | inr n ↦
      ne_eqb x y n ∙ sym (ne_eqb y x (λ e. n (sym e)))
]

-- one more position
pub range_more : (n : ℕ) → range_with_len 0 (n + 1) ≡ range_with_len 0 n ++ n ∷ []
range_more n = sym (map-id (range_with_len 0 (n + 1))) ∙ map-range_with_len_more (λ k. k) 0 n n (omega arith)
    ∙ ap (λ ks. ks ++ n ∷ []) (map-id (range_with_len 0 n))

-- positions from 0 on, each once
module _ (P : List ℕ) (all : AreAllPositions P) where
  pub position_below : (r : ℕ) → r < length P → get_or P r 0 < length P
  position_below r l =
      All-permutation (λ p. p < length P) (range_with_len 0 (length P)) P all
      (λ k d m. let w = length-range_with_len 0 (length P) in let e = get_or-range_with_len 0 (length P) k d (omega arith) in omega arith) r
      0 l

  pub positions_differ : (i j : ℕ) → i < length P → j < length P → i ≢ j → get_or P i 0 ≢ get_or P j 0
  positions_differ i j l m n = elim (cases_lt i j) [
    | inl o ↦ apart_positions i j o m
    | inr o ↦ λ e. apart_positions j i (omega arith) l (sym e)
  ]
    where
      distinct : IsDistinct eqb P
      distinct =
          IsDistinct-IsPermutation eqb eqb_flips (range_with_len 0 (length P)) P all
          (IsDistinct-from_apart eqb (range_with_len 0 (length P))
          (λ i j d o m.
          let w = length-range_with_len 0 (length P) in
          let e = get_or-range_with_len 0 (length P) i d (omega arith) in
          let f = get_or-range_with_len 0 (length P) j d (omega arith) in
          ne_eqb _ _ (λ h. omega arith)))

      apart_positions : (i j : ℕ) → i < j → j < length P → get_or P i 0 ≢ get_or P j 0
      apart_positions i j o m = eqb-false _ _ (apart_from_distinct eqb P i j 0 distinct o m)

  pub position_taken : (p : ℕ) → p < length P → (r : ℕ) × (r < length P) × (get_or P r 0 ≡ p)
  position_taken p l =
      let w = length-range_with_len 0 (length P) in
      let h = Contains-permutation (range_with_len 0 (length P)) P p all
      (p, omega arith, get_or-range_with_len 0 (length P) p p l ∙ omega arith) in
      (h.0, h.1, any_default P h.0 0 p h.1 ∙ h.2)

  -- the ranks of the first positions are written
  pub ranks_more : (R : List ℕ) (i : ℕ) → length R ≡ length P → i < length P → ((r : ℕ) → r < i → get_or R (get_or P r 0) 0 ≡ r) → (r : ℕ)
      → r < i + 1 → get_or (set R (get_or P i 0) i) (get_or P r 0) 0 ≡ r
  ranks_more R i w l h r m = elim (cases_eq r i) [
    | inl e ↦ ap (λ k. get_or (set R (get_or P i 0) i) (get_or P k 0) 0) e
        ∙ get_or-set_same R (get_or P i 0) i 0 (let b = position_below i l in omega arith) ∙ sym e
    | inr n ↦ get_or-set_other R (get_or P i 0) (get_or P r 0) i 0 (positions_differ r i (omega arith) l n) ∙ h r (omega arith)
  ]

  pub ranks_all : (R : List ℕ) → length R ≡ length P → ((r : ℕ) → r < length P → get_or R (get_or P r 0) 0 ≡ r) → AreInverse P R
  ranks_all R w h = record {
    one_length = w;
    back = λ r l. let b = position_below r l in (omega arith, h r l);
    forth = λ p l.
        let t = position_taken p (omega arith) in
        let e : get_or R p 0 ≡ t.0 = ap (λ q. get_or R q 0) (sym t.2) ∙ h t.0 t.1 in
        let b = t.1 in
        (omega arith, ap (λ r. get_or P r 0) e ∙ t.2);
  }

module _ {ID : Type 0} {eq : ID → ID → Bool} {cmp : ID → ID → Ordering} (laws : IsEquivalence eq) (total : IsTotalOrder cmp)
    (ties : (x y : ID) → eq x y ≡ eq_by_cmp cmp x y) where
  pub less_from : (x y : ID) → is_lt (cmp y x) ≡ false → eq x y ≡ false → cmp x y ≡ Less
  less_from x y h e = by (cmp x y) refl
    where
      by : (o : Ordering) → cmp x y ≡ o → o ≡ Less
      by Less c = refl
      by Equal c = absurd (true≢false (ap is_eq (sym c) ∙ sym (ties x y) ∙ e))
      by Greater c = absurd (true≢false (ap is_lt (sym (total.antisymm y x ∙ ap ordering_reverse c)) ∙ h))

  -- ids in order of which none are equal ascend
  pub ascending_from_sorted : (es : List (ID × ℕ)) → IsDistinct eq (keys_of es) → IsSortedByKey (λ e. e.0) cmp es
      → IsStrictlySortedBy cmp (keys_of es)
  unfolding IsStrictlySortedBy
  ascending_from_sorted [] distinct sorted = tt
  ascending_from_sorted (e ∷ es) distinct sorted =
      sorted_from_all_adjacent total (keys_of (e ∷ es)) e.0
      (λ k l.
      let m : k + 1 < length (e ∷ es) = omega (arith, length-keys_of (e ∷ es)) in
      less_from _ _
      (ap is_lt (ap (cmp (get_or (keys_of (e ∷ es)) (k + 1) e.0)) (sym (key_at (e ∷ es) k e e.0 (omega arith)))
      ∙ ap (λ x. cmp x (get_or (e ∷ es) k e).0) (sym (key_at (e ∷ es) (k + 1) e e.0 m))) ∙ sorted k e (omega arith) m)
      (apart_from_distinct eq (keys_of (e ∷ es)) k (k + 1) e.0 distinct (omega arith) l))

  -- entries that have a list of ids in another order
  module _ (ids : List ID) (made es : List (ID × ℕ)) (distinct : IsDistinct eq ids) (keys : keys_of made ≡ ids)
      (positions : values_of made ≡ range_with_len 0 (length ids)) (moved : IsPermutation made es) where
    pub length_moved : length es ≡ length ids
    length_moved = length_permutation made es moved ∙ sym (length-keys_of made) ∙ ap length keys

    pub distinct_moved : IsDistinct eq (keys_of es)
    distinct_moved = IsDistinct-IsPermutation eq laws.symm (keys_of made) (keys_of es) (IsPermutation-map (λ e. e.0) made es moved)
        (subst (IsDistinct eq) (sym keys) distinct)

    pub positions_moved : AreAllPositions (values_of es)
    positions_moved =
        subst (λ vs. IsPermutation vs (values_of es)) (positions ∙ ap (range_with_len 0) (sym (length-map es (λ e. e.1) ∙ length_moved)))
        (IsPermutation-map (λ e. e.1) made es moved)

    pub found_moved : AreAtPositions eq ids (λ x. lookup (eq x) es)
    found_moved = record { here = here; unknown = unknown }
      where
        here : (x : ID) (k : ℕ) → k < length ids → eq x (get_or ids k x) ≡ true → lookup (eq x) es ≡ Some k
        here x k l at =
            let q = get_or ids k x in
            let w : k < length made = omega (arith, length-keys_of made, ap length keys) in
            let id_is : get_or (keys_of made) k q ≡ q = ap (λ ks. get_or ks k q) keys ∙ any_default ids k q x l in
            let position_is : get_or (values_of made) k 0 ≡ k =
            ap (λ vs. get_or vs k 0) positions ∙ get_or-range_with_len 0 (length ids) k 0 l ∙ omega arith in
            let is : get_or made k (q, k) ≡ (q, k) =
            entry_at made k (q, k) q 0 w ∙ ap (λ y. (y, get_or (values_of made) k 0)) id_is ∙ ap (λ (p : ℕ). (q, p)) position_is in
            lookup_tests (eq x) (eq q) es (λ y. laws.congr x q y at)
            ∙ lookup-from_Contains laws q k es distinct_moved (Contains-permutation made es (q, k) moved (k, w, is))

        unknown : (x : ID) → is_member eq ids x ≡ false → lookup (eq x) es ≡ None
        unknown x m =
            none_from (lookup (eq x) es)
            (is_some-lookup (eq x) es ∙ sym
            (list_any-IsPermutation (eq x) (keys_of made) (keys_of es) (IsPermutation-map (λ e. e.0) made es moved))
            ∙ ap (list_any (eq x)) keys ∙ m)
