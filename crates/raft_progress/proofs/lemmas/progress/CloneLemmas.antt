-- Clones of entries, one after another, and of a whole progress.
use Rattle.std.specs.Prelude.{◌≡◌, ℕ, ◌+◌, ◌<◌, Bool, true, ◌&&◌, List, [], ◌∷◌, ◌++◌, length, take, refl, nat_eq, Result, Ok, Err, MatchResult, IfOk, map}
use Rattle.std.specs.List.{AllZip}
use Rattle.std.specs.Map.{keys_of}
use Rattle.std.specs.Set.{ClonesAreEqual}
use Rattle.std.specs.Cmp.{IsEquivalence, nat_eq_equiv}
use Rattle.std.specs.Cmp.Lexicographic.{pointwise}
use Rattle.std.proofs.Common.{ap, subst, suc, sym, ◌∙◌, get_or, refl, zero}
use Rattle.std.proofs.lemmas.List.{take_more}
use Rattle.raft_progress.specs.progress.Equal.{IsCloned, equal}
use Rattle.raft_progress.specs.progress.ProgressView.{ProgressView}
use Rattle.raft_progress.proofs.lemmas.ListLemmas.{both}
use Rattle.std.proofs.lemmas.Slice.Zip.{all_zipped_more}
use Rattle.std.specs.declared.cmp.Ordering.{Ordering}
use Rattle.raft_progress.specs.progress.Kept.{ClonesKeepOrder}
use Rattle.raft_progress.specs.tracked.TrackedState.{has_quorum}
use Rattle.raft_progress.proofs.lemmas.progress.KeptLemmas.{order_alike}

pub zip_step : {A B : Type 0} (R : A → B → Type 0) (xs : List A) (i : ℕ) (x : A) (ys zs : List B) (y : B) → i < length xs
    → x ≡ get_or xs i x → AllZip R (take i xs) ys → zs ≡ ys ++ y ∷ [] → R x y → AllZip R (take (i + 1) xs) zs
zip_step {A} {B} R xs i x ys zs y l is a made r =
    let more : take (i + 1) xs ≡ take i xs ++ x ∷ [] = take_more xs i x l ∙ ap (λ e. take i xs ++ e ∷ []) (sym is) in
    subst (λ (es : List A). AllZip R es zs) (sym more)
    (subst (λ (es : List B). AllZip R (take i xs ++ x ∷ []) es) (sym made) (all_zipped_more R (take i xs) ys x y a r))

pub same_length : {A B : Type 0} (R : A → B → Type 0) (xs : List A) (ys : List B) → AllZip R xs ys → length ys ≡ length xs
same_length R [] [] a = refl
same_length R [] (y ∷ ys) a = absurd a
same_length R (x ∷ xs) [] a = absurd a
same_length R (x ∷ xs) (y ∷ ys) a = ap suc (same_length R xs ys a.1)

-- the ids stay
pub same_ids : {ID V : Type 0} (IsClone : V → V → Type 0) (es fs : List (ID × V)) → AllZip (λ d e. (e.0 ≡ d.0) × IsClone d.1 e.1) es fs
    → keys_of fs ≡ keys_of es
same_ids IsClone [] [] a = refl
same_ids IsClone [] (f ∷ fs) a = absurd a
same_ids IsClone (e ∷ es) [] a = absurd a
same_ids IsClone (e ∷ es) (f ∷ fs) a = λ i. a.0.0 i ∷ same_ids IsClone es fs a.1 i

-- if a value equals its clone, entries equal their clones
entries_equal : {ID V : Type 0} {eq : ID → ID → Bool} (laws : IsEquivalence eq) (value_eq : V → V → Bool) (IsClone : V → V → Type 0)
    → ClonesAreEqual value_eq IsClone → (es fs : List (ID × V)) → AllZip (λ d e. (e.0 ≡ d.0) × IsClone d.1 e.1) es fs
    → pointwise (λ d e. eq d.0 e.0 && value_eq d.1 e.1) es fs ≡ true
entries_equal laws value_eq IsClone c [] [] a = refl
entries_equal laws value_eq IsClone c [] (f ∷ fs) a = absurd a
entries_equal laws value_eq IsClone c (e ∷ es) [] a = absurd a
entries_equal {ID} {V} {eq} laws value_eq IsClone c (e ∷ es) (f ∷ fs) a =
    both _ _ (both _ _ (subst (λ (x : ID). eq e.0 x ≡ true) (sym a.0.0) (laws.refl e.0)) (c e.1 f.1 a.0.1))
    (entries_equal laws value_eq IsClone c es fs a.1)

-- a clone is equal
pub clone_is_equal : {ID V P QS : Type 0} {id_eq : ID → ID → Bool} (laws : IsEquivalence id_eq) (value_eq : V → V → Bool)
    {part_eq : P → P → Bool} (part_laws : IsEquivalence part_eq) (set_eq : QS → QS → Bool) (IsClone : V → V → Type 0)
    (IsSetClone : QS → QS → Type 0) → ClonesAreEqual value_eq IsClone → ClonesAreEqual set_eq IsSetClone
    → (old new : ProgressView ID V P QS)
    → IsCloned IsClone IsSetClone old new → equal id_eq value_eq part_eq set_eq old new ≡ true
clone_is_equal {ID} {V} {P} {QS} {id_eq} laws value_eq {part_eq} part_laws set_eq IsClone IsSetClone values sets old new c =
    both _ _
    (both _ _
    (both _ _
    (both _ _
    (both _ _ (sets old.quorum_set new.quorum_set c.quorum_set)
    (subst (λ (p : P). part_eq old.granted p ≡ true) (sym c.granted) (part_laws.refl old.granted)))
    (subst (λ (n : ℕ). nat_eq old.voter_count n ≡ true) (sym c.voter_count) (nat_eq_equiv.refl old.voter_count)))
    (entries_equal laws value_eq IsClone values old.entries new.entries c.entries))
    (subst (λ (p : P). part_eq old.default_part p ≡ true) (sym c.default_part) (part_laws.refl old.default_part)))
    (both _ _
    (both _ _
    (subst (λ (n : ℕ). nat_eq old.stat.update_count n ≡ true) (sym (ap (λ t. t.update_count) c.stat))
    (nat_eq_equiv.refl old.stat.update_count))
    (subst (λ (n : ℕ). nat_eq old.stat.move_count n ≡ true) (sym (ap (λ t. t.move_count) c.stat)) (nat_eq_equiv.refl old.stat.move_count)))
    (subst (λ (n : ℕ). nat_eq old.stat.is_quorum_count n ≡ true) (sym (ap (λ t. t.is_quorum_count) c.stat))
    (nat_eq_equiv.refl old.stat.is_quorum_count)))

-- what holds of each success holds of this one
pub ok_from_match : {T E : Type 0} (P R : T → Type 0) (Q : E → Type 0) (r : Result T E) → MatchResult r P Q → ((x : T) → P x → R x)
    → IfOk r R
ok_from_match P R Q (Ok x) m f = f x m
ok_from_match P R Q (Err e) m f = tt

-- if an item equals its clone, a list equals its clone
pub list_is_equal : {X : Type 0} (eq : X → X → Bool) (IsClone : X → X → Type 0) → ClonesAreEqual eq IsClone → (xs ys : List X)
    → AllZip IsClone xs ys → pointwise eq xs ys ≡ true
list_is_equal eq IsClone c [] [] a = refl
list_is_equal eq IsClone c [] (y ∷ ys) a = absurd a
list_is_equal eq IsClone c (x ∷ xs) [] a = absurd a
list_is_equal eq IsClone c (x ∷ xs) (y ∷ ys) a = both _ _ (c x y a.0) (list_is_equal eq IsClone c xs ys a.1)

-- and their parts
pub same_parts : {ID V P : Type 0} (IsClone : V → V → Type 0) (part : V → P) → ((v w : V) → IsClone v w → part w ≡ part v)
    → (n : ℕ) (es fs : List (ID × V))
    → AllZip (λ d e. (e.0 ≡ d.0) × IsClone d.1 e.1) es fs → map (λ e. part e.1) (take n fs) ≡ map (λ e. part e.1) (take n es)
same_parts IsClone part same zero es fs a = refl
same_parts IsClone part same (suc n) [] [] a = refl
same_parts IsClone part same (suc n) [] (f ∷ fs) a = absurd a
same_parts IsClone part same (suc n) (e ∷ es) [] a = absurd a
same_parts IsClone part same (suc n) (e ∷ es) (f ∷ fs) a = λ i. same e.1 f.1 a.0.1 i ∷ same_parts IsClone part same n es fs a.1 i

-- a clone of a progress in order is in order
pub clones_keep_order : {ID V P QS : Type 0} (eq : ID → ID → Bool) (cmp : P → P → Ordering) (part : V → P)
    (has_quorum : QS → (ID → Bool) → Bool) (IsClone : V → V → Type 0) (IsSetClone : QS → QS → Type 0)
    → ClonesKeepOrder ID V P QS eq part cmp has_quorum IsClone IsSetClone
clones_keep_order eq cmp part has_quorum IsClone IsSetClone clones sets old new c =
    order_alike eq cmp part has_quorum old new (sets old.quorum_set new.quorum_set c.quorum_set) c.voter_count c.default_part c.granted
    (same_ids IsClone old.entries new.entries c.entries) (same_parts IsClone part clones old.voter_count old.entries new.entries c.entries)
