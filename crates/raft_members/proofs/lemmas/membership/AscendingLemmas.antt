-- Keys that are inserted in order, ascending or descending.
use Rattle.std.specs.Prelude.{◌≡◌, List, [], ◌∷◌, ◌++◌, refl}
use Rattle.std.proofs.Common.{sym, subst, ◌∙◌, ap, append_assoc, append-nil}
use Rattle.std.specs.Cmp.{IsTotalOrder}
use Rattle.std.specs.Ordering.{ordering_reverse}
use Rattle.std.specs.declared.cmp.Ordering.{Ordering}
use Rattle.std.specs.declared.cmp.Ordering.TheVariants.{Less, Greater}
use Rattle.std.specs.List.{AllByRecursion}
use Rattle.std.specs.List.Sorted.{IsStrictlySortedBy}
use Rattle.std.proofs.lemmas.Map.Keys.{sorted_head, sorted_tail}
use Rattle.std.specs.BTreeSet.{insert_key}

module _ {K : Type 0} {cmp : K → K → Ordering} (o : IsTotalOrder cmp) where
  middle : (P : K → Type 0) (xs rest : List K) (k : K) → AllByRecursion P (xs ++ k ∷ rest) → P k
  middle P [] rest k h = h.0
  middle P (x ∷ xs) rest k h = middle P xs rest k h.1

  -- a key above all others is inserted at the end
  insert_last : (ks rest : List K) (k : K) → IsStrictlySortedBy cmp (ks ++ k ∷ rest) → insert_key cmp ks k ≡ ks ++ k ∷ []
  insert_last [] rest k s = refl
  insert_last (x ∷ xs) rest k s =
      let g : cmp k x ≡ Greater = o.antisymm k x
      ∙ ap ordering_reverse (middle (λ y. cmp x y ≡ Less) xs rest k (sorted_head cmp x (xs ++ k ∷ rest) s)) in
      rw g (ap (λ ys. x ∷ ys) (insert_last xs rest k (sorted_tail cmp x (xs ++ k ∷ rest) s)))

  -- one more key of a sorted list is inserted
  pub insert_ahead : (all ks ahead rest : List K) (k : K) → IsStrictlySortedBy cmp all → all ≡ ks ++ ahead → ahead ≡ k ∷ rest
      → all ≡ insert_key cmp ks k ++ rest
  insert_ahead all ks ahead rest k s e f =
      let whole : all ≡ ks ++ k ∷ rest = e ∙ ap (λ ys. ks ++ ys) f in
      let P : List K → Type 0 = IsStrictlySortedBy cmp in
      whole ∙ sym (append_assoc ks (k ∷ []) rest) ∙ ap (λ ys. ys ++ rest) (sym (insert_last ks rest k (rw whole at s)))

-- a key below all others is inserted at the beginning
insert_first : {K : Type 0} (cmp : K → K → Ordering) (front ks : List K) (k : K) → IsStrictlySortedBy cmp (front ++ k ∷ ks)
    → insert_key cmp ks k ≡ k ∷ ks
insert_first cmp [] [] k s = refl
insert_first cmp [] (x ∷ xs) k s = rw (sorted_head cmp k (x ∷ xs) s).0 refl
insert_first cmp (f ∷ front) ks k s = insert_first cmp front ks k (sorted_tail cmp f (front ++ k ∷ ks) s)

-- the last key ahead in a sorted list is inserted
pub insert_behind : {K : Type 0} (cmp : K → K → Ordering) (all ahead ks rest : List K) (k : K) → IsStrictlySortedBy cmp all
    → all ≡ ahead ++ ks → ahead ≡ rest ++ k ∷ [] → all ≡ rest ++ insert_key cmp ks k
insert_behind cmp all ahead ks rest k s e f =
    let whole : all ≡ rest ++ k ∷ ks = e ∙ ap (λ ys. ys ++ ks) f ∙ append_assoc rest (k ∷ []) ks in
    whole ∙ ap (λ ys. rest ++ ys) (sym (insert_first cmp rest ks k (subst (IsStrictlySortedBy cmp) whole s)))

-- one more item is pushed
pub push_ahead : {K : Type 0} (all ks ahead rest : List K) (k : K) → all ≡ ks ++ ahead → ahead ≡ k ∷ rest → all ≡ (ks ++ k ∷ []) ++ rest
push_ahead all ks ahead rest k e f = e ∙ ap (λ ys. ks ++ ys) f ∙ sym (append_assoc ks (k ∷ []) rest)

-- nothing remains to be inserted
pub none_ahead : {K : Type 0} (all ks ahead : List K) → all ≡ ks ++ ahead → ahead ≡ [] → ks ≡ all
none_ahead all ks ahead e f = sym (e ∙ ap (λ ys. ks ++ ys) f ∙ append-nil ks)
