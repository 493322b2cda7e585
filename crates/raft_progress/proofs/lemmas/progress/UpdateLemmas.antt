-- What one written value does to a progress.
use Rattle.std.specs.Prelude.{◌≡◌, ℕ, Bool, true, false, cond, List, [], ◌∷◌, take, Some, position, slice_get, None}
use Rattle.std.specs.declared.cmp.Ordering.{Ordering}
use Rattle.std.specs.Cmp.{IsEquivalence}
use Rattle.std.specs.Map.{keys_of, lookup, set_value}
use Rattle.std.specs.List.{IsDistinct, AllByRecursion}
use Rattle.std.specs.Option.{is_some}
use Rattle.std.proofs.Common.{sym, ap, refl, ◌∙◌, set, subst, suc, zero}
use Rattle.std.proofs.lemmas.Option.{get_or_from_slice_get}
use Rattle.std.proofs.lemmas.Map.{lookup-set_value, keys-set_value}
use Rattle.raft_progress.specs.progress.ProgressState.{IsSame, ProgressState, Writes}
use Rattle.raft_progress.specs.progress.ProgressView.{ProgressView, state}
use Rattle.raft_progress.specs.progress.Updated.{IsUpdated}
use Rattle.raft_progress.specs.progress.Entries.{state_of}
use Rattle.raft_progress.proofs.lemmas.progress.entries.EntriesLemmas.{lookup_found, set_found}

module _ {ID : Type 0} {eq : ID → ID → Bool} (laws : IsEquivalence eq) where
  all_take : (k : ID) (n : ℕ) (ks : List ID) → AllByRecursion (λ y. eq k y ≡ false) ks → AllByRecursion (λ y. eq k y ≡ false) (take n ks)
  all_take k zero ks a = tt
  all_take k (suc n) [] a = tt
  all_take k (suc n) (y ∷ ks) a = (a.0, all_take k n ks a.1)

  pub IsDistinct-take : (n : ℕ) (ks : List ID) → IsDistinct eq ks → IsDistinct eq (take n ks)
  unfolding IsDistinct
  IsDistinct-take zero ks d = tt
  IsDistinct-take (suc n) [] d = tt
  IsDistinct-take (suc n) (k ∷ ks) d = (all_take k n ks d.0, IsDistinct-take n ks d.1)

  pub keys_take : {V : Type 0} (n : ℕ) (entries : List (ID × V)) → keys_of (take n entries) ≡ take n (keys_of entries)
  keys_take zero entries = refl
  keys_take (suc n) [] = refl
  keys_take (suc n) (e ∷ es) = ap (λ ks. e.0 ∷ ks) (keys_take n es)

  -- the voters' ids are distinct
  pub IsDistinct-voters : {V : Type 0} (n : ℕ) (entries : List (ID × V)) → IsDistinct eq (keys_of entries)
      → IsDistinct eq (keys_of (take n entries))
  IsDistinct-voters n entries d = subst (IsDistinct eq) (sym (keys_take n entries)) (IsDistinct-take n (keys_of entries) d)

  pub lookup_alike : {V : Type 0} (x y : ID) → eq x y ≡ true → (entries : List (ID × V)) → lookup (eq x) entries ≡ lookup (eq y) entries
  lookup_alike x y e [] = refl
  lookup_alike x y e (f ∷ fs) = rw (laws.congr x y f.0 e, lookup_alike x y e fs) refl

  module _ {V : Type 0} (entries : List (ID × V)) (id : ID) (place : ℕ) (e : ID × V)
      (at : position (λ (f : ID × V). eq id f.0) entries ≡ Some place) (is : slice_get entries place ≡ Some e) where
    pub was : lookup (eq id) entries ≡ Some e.1
    was = lookup_found (eq id) entries place e at ∙ ap (λ (f : ID × V). Some f.1) (get_or_from_slice_get entries place e e is)

    pub wrote : (w : V) → set entries place (e.0, w) ≡ set_value (eq id) entries w
    wrote w = ap (λ (f : ID × V). set entries place (f.0, w)) (sym (get_or_from_slice_get entries place e e is))
        ∙ set_found (eq id) entries place e w at

  module _ {V : Type 0} (entries new : List (ID × V)) (id : ID) (v w : V) (was : lookup (eq id) entries ≡ Some v)
      (is : new ≡ set_value (eq id) entries w) where
    pub same_keys : keys_of new ≡ keys_of entries
    same_keys = ap keys_of is ∙ keys-set_value (eq id) entries w

    pub lookup_written : (x : ID) → lookup (eq x) new ≡ cond (eq id x) (Some w) (lookup (eq x) entries)
    lookup_written x = ap (λ es. lookup (eq x) es) is
        ∙ lookup-set_value laws (eq id) (λ y z h. laws.congr id y z h) x w entries (ap is_some was)

    pub writes : {P QS : Type 0} (qs qs' : QS) (n n' : ℕ) (p p' : P) → qs' ≡ qs → n' ≡ n → p' ≡ p
        → Writes eq (state_of eq qs entries n p) id w (state_of eq qs' new n' p')
    writes qs qs' n n' p p' a b c = record {
      quorum_set = a;
      is_voter = λ x. rw (b, same_keys) refl;
      value = lookup_written;
      default_part = c;
    }

-- a state is the same as itself
pub IsSame-refl : {ID V P QS : Type 0} (s : ProgressState ID V P QS) → IsSame s s
IsSame-refl s = record { quorum_set = refl; is_voter = λ x. refl; value = λ x. refl; default_part = refl }

-- an update of an unknown id changes no value
pub unknown_same : {ID V P QS : Type 0} (eq : ID → ID → Bool) (cmp : P → P → Ordering) (part : V → P) (Left : V → V → Type 0)
    (old : ProgressView ID V P QS) (id : ID) (new : ProgressView ID V P QS) → IsUpdated eq cmp part Left old id new
    → (state eq old).value id ≡ None
    → IsSame (state eq old) (state eq new)
unknown_same {ID} {V} {P} {QS} eq cmp part Left old id new u none =
    subst (λ (p : ProgressView ID V P QS). IsSame (state eq old) (state eq p)) (sym (u.unknown none)) (IsSame-refl (state eq old))
