-- What a search of ascending entries finds.
use Rattle.std.specs.Prelude.{◌≡◌, ℕ, ◌+◌, ◌<◌, Bool, true, cond, List, [], ◌∷◌, length, Some, None}
use Rattle.std.specs.Cmp.{IsEquivalence, IsTotalOrder}
use Rattle.std.specs.List.{IsDistinct}
use Rattle.std.specs.List.Sorted.{IsStrictlySortedBy, IsNonDecreasingBy, IsPartitionPoint}
use Rattle.std.specs.Map.{keys_of, lookup}
use Rattle.std.specs.Ordering.{eq_by_cmp, is_eq, is_lt, ordering_index, ordering_reverse}
use Rattle.std.specs.declared.cmp.Ordering.{Ordering}
use Rattle.std.specs.declared.cmp.Ordering.TheVariants.{Less, Equal, Greater}
use Rattle.std.proofs.Common.{arith, sym, ap, refl, ◌∙◌, subst, get_or, suc, zero}
use Rattle.std.proofs.lemmas.List.Sorted.{searchable_from_sorted}
use Rattle.std.proofs.lemmas.Map.Entries.{lookup_from_place, lookup_at_gap, length-keys_of}
use Rattle.std.proofs.lemmas.Map.Keys.{IsDistinct-from_sorted, Less-from_sorted}
use Rattle.std.proofs.lemmas.Option.{slice_get-get_or, get_or_from_slice_get, slice_get_within}

-- the id at a position is the id of the entry there
pub key_at : {ID V : Type 0} (es : List (ID × V)) (i : ℕ) (d : ID × V) (x : ID) → i < length es
    → (get_or es i d).0 ≡ get_or (keys_of es) i x
key_at [] i d x l = absurd (omega arith)
key_at (e ∷ es) zero d x l = refl
key_at (e ∷ es) (suc i) d x l = key_at es i d x (omega arith)

-- equal tests find equal values
pub lookup_tests : {ID V : Type 0} (s t : ID → Bool) (es : List (ID × V)) → ((x : ID) → s x ≡ t x) → lookup s es ≡ lookup t es
lookup_tests s t [] h = refl
lookup_tests s t (e ∷ es) h = ap (λ b. cond b (Some e.1) (lookup s es)) (h e.0)
    ∙ ap (λ o. cond (t e.0) (Some e.1) o) (lookup_tests s t es h)

module _ {ID : Type 0} {eq : ID → ID → Bool} {cmp : ID → ID → Ordering} (laws : IsEquivalence eq) (total : IsTotalOrder cmp)
    (ties : (x y : ID) → eq x y ≡ eq_by_cmp cmp x y) where
  pub distinct_ascending : (ks : List ID) → IsStrictlySortedBy cmp ks → IsDistinct eq ks
  distinct_ascending ks s = subst (λ e. IsDistinct e ks) (λ i x y. sym (ties x y) i) (IsDistinct-from_sorted cmp ks s)

  module _ (es : List (ID × ℕ)) (ascending : IsStrictlySortedBy cmp (keys_of es)) (id : ID) where
    -- an id that compares as equal to the id of an entry has the entry's position
    pub found_at : (r : ℕ) (d : ID × ℕ) → r < length es → cmp (get_or es r d).0 id ≡ Equal → lookup (eq id) es ≡ Some (get_or es r d).1
    found_at r d l h =
        let k = (get_or es r d).0 in
        let e : eq k id ≡ true = ties k id ∙ ap is_eq h in
        lookup_tests (eq id) (eq k) es (λ y. sym (laws.congr k id y e))
        ∙ lookup_from_place laws es r k (get_or es r d).1 (distinct_ascending (keys_of es) ascending) (slice_get-get_or es r d l)

    -- the results of a search rise along the entries
    pub searchable : IsNonDecreasingBy (λ e. ordering_index (cmp e.0 id)) es
    searchable =
        searchable_from_sorted total (λ e. e.0) es id
        (λ k d low m.
        let l : k + 1 < length (keys_of es) = omega (arith, length-keys_of es) in
        let less = Less-from_sorted cmp (keys_of es) k (k + 1) d.0 ascending (omega arith) l in
        ap is_lt (total.antisymm (get_or es (k + 1) d).0 (get_or es k d).0
        ∙ ap ordering_reverse (ap (λ x. cmp x (get_or es (k + 1) d).0) (key_at es k d d.0 (omega arith))
        ∙ ap (cmp (get_or (keys_of es) k d.0)) (key_at es (k + 1) d d.0 m) ∙ less)))

    -- an id between two entries is unknown
    pub unfound_between : (i : ℕ) → IsPartitionPoint (λ e. cmp e.0 id ≡ Less) (λ e. cmp e.0 id ≡ Greater) es i → lookup (eq id) es ≡ None
    unfound_between i p =
        lookup_tests (eq id) (eq_by_cmp cmp id) es (ties id)
        ∙ lookup_at_gap total id es i ascending
        (λ j e l s. total.antisymm id e.0
        ∙ ap ordering_reverse (ap (λ f. cmp f.0 id) (sym (get_or_from_slice_get es j e e s)) ∙ p.0 j e (omega arith) l))
        (λ e s. total.antisymm id e.0 ∙ ap ordering_reverse
        (ap (λ f. cmp f.0 id) (sym (get_or_from_slice_get es i e e s)) ∙ p.1 i e (omega arith) (slice_get_within es i e s)))
