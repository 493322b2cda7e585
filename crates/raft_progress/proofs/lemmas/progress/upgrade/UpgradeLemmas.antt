-- Taking over the values of an old progress, one id after another.
use Rattle.std.specs.Prelude.{◌≡◌, ℕ, ◌<◌, Bool, true, false, cond, ◌||◌, List, [], ◌∷◌, ◌++◌, length, take, Option, Some, None}
use Rattle.std.specs.Cmp.{IsEquivalence}
use Rattle.std.specs.Map.{keys_of, lookup}
use Rattle.std.specs.Set.{is_member}
use Rattle.std.specs.List.{IsDistinct, AllByRecursion}
use Rattle.std.proofs.Common.{arith, sym, ap, refl, ◌∙◌, get_or, subst, suc, zero}
use Rattle.raft_progress.specs.progress.NewProgress.{HasClone, IsNew}
use Rattle.raft_progress.specs.progress.ProgressState.{IsSame, ProgressState, Writes}
use Rattle.raft_progress.specs.progress.Upgrade.{Inherits, IsUpgraded}
use Rattle.raft_progress.proofs.lemmas.progress.entries.EntriesLemmas.{no_value}
use Rattle.std.proofs.lemmas.Option.{slice_get-get_or}
use Rattle.std.proofs.lemmas.Map.Entries.{lookup_from_place}

key_apart : {ID V : Type 0} (R : ID → Type 0) (es : List (ID × V)) (k : ℕ) (d : ID × V) → k < length es → AllByRecursion R (keys_of es)
    → R (get_or es k d).0
key_apart R [] k d l a = absurd (omega arith)
key_apart R (e ∷ es) zero d l a = a.0
key_apart R (e ∷ es) (suc k) d l a = key_apart R es k d (omega arith) a.1

module _ {ID V : Type 0} {eq : ID → ID → Bool} (laws : IsEquivalence eq) where
  -- no earlier entry has the key
  pub not_seen : (es : List (ID × V)) (k : ℕ) (d : ID × V) → k < length es → IsDistinct eq (keys_of es)
      → lookup (eq (get_or es k d).0) (take k es) ≡ None
  unfolding IsDistinct
  not_seen es zero d l h = refl
  not_seen [] (suc k) d l h = absurd (omega arith)
  not_seen (e ∷ es) (suc k) d l h = rw (laws.symm (get_or es k d).0 e.0 ∙ key_apart (λ y. eq e.0 y ≡ false) es k d (omega arith) h.0)
      (not_seen es k d (omega arith) h.1)

pub lookup_other : {ID V : Type 0} (test : ID → Bool) (xs : List (ID × V)) (e : ID × V) → test e.0 ≡ false
    → lookup test (xs ++ e ∷ []) ≡ lookup test xs
lookup_other test [] e h = rw h refl
lookup_other test (x ∷ xs) e h = ap (λ r. cond (test x.0) (Some x.1) r) (lookup_other test xs e h)

lookup_this : {ID V : Type 0} (test : ID → Bool) (xs : List (ID × V)) (e : ID × V) → test e.0 ≡ true → lookup test xs ≡ None
    → lookup test (xs ++ e ∷ []) ≡ Some e.1
lookup_this test [] e h n = rw h refl
lookup_this {ID} {V} test (x ∷ xs) e h n = by (test x.0) n (lookup_this test xs e h)
  where
    by : (b : Bool) → cond b (Some x.1) (lookup test xs) ≡ None → (lookup test xs ≡ None → lookup test (xs ++ e ∷ []) ≡ Some e.1)
        → cond b (Some x.1) (lookup test (xs ++ e ∷ [])) ≡ Some e.1
    by true m r = absurd (no_value _ _ m refl)
    by false m r = r m

module _ {ID V P QS : Type 0} {eq : ID → ID → Bool} (laws : IsEquivalence eq) (IsClone : V → V → Type 0) (part : V → P)
    (is_voter : ID → Bool) (qs : QS) (learners : List ID) (default : V) (seen : List (ID × V)) (s s' : ProgressState ID V P QS)
    (u : IsUpgraded eq IsClone part is_voter qs learners default (λ x. lookup (eq x) seen) s)
    (alike : (x y : ID) → eq x y ≡ true → s.value x ≡ s.value y) (e : ID × V) (new_key : lookup (eq e.0) seen ≡ None) where
  abbrev is_in : ID → Bool
  is_in x = is_voter x || is_member eq learners x

  seen_alike : (x : ID) → eq e.0 x ≡ true → lookup (eq x) seen ≡ None
  seen_alike x h = by seen ∙ new_key
    where
      by : (xs : List (ID × V)) → lookup (eq x) xs ≡ lookup (eq e.0) xs
      by [] = refl
      by (y ∷ ys) = rw (sym (laws.congr e.0 x y.0 h), by ys) refl

  -- a known id has taken over the value of its entry
  pub took_over : (w : V) → IsClone e.1 w → (v : V) → s.value e.0 ≡ Some v → Writes eq s e.0 w s'
      → IsUpgraded eq IsClone part is_voter qs learners default (λ x. lookup (eq x) (seen ++ e ∷ [])) s'
  took_over w cl v h wr = record {
    same_quorum_set = wr.quorum_set ∙ u.same_quorum_set;
    voters = λ x. wr.is_voter x ∙ u.voters x;
    value = λ x t. val x t (eq e.0 x) refl;
    others = λ x t. oth x t (eq e.0 x) refl;
    default_part = wr.default_part ∙ u.default_part;
  }
    where
      val : (x : ID) → is_in x ≡ true → (b : Bool) → eq e.0 x ≡ b → Inherits IsClone default (lookup (eq x) (seen ++ e ∷ [])) (s'.value x)
      val x t true q = rw (lookup_this (eq x) seen e (laws.symm x e.0 ∙ q) (seen_alike x q))
          (w, wr.value x ∙ ap (λ b. cond b (Some w) (s.value x)) q, cl)
      val x t false q = rw (lookup_other (eq x) seen e (laws.symm x e.0 ∙ q), wr.value x, q) (u.value x t)

      oth : (x : ID) → is_in x ≡ false → (b : Bool) → eq e.0 x ≡ b → s'.value x ≡ None
      oth x t true q = absurd (no_value _ _ (alike e.0 x q ∙ u.others x t) h)
      oth x t false q = wr.value x ∙ ap (λ b. cond b (Some w) (s.value x)) q ∙ u.others x t

  -- an entry of an unknown id is passed over
  pub passed_over : s.value e.0 ≡ None → IsSame s s'
      → IsUpgraded eq IsClone part is_voter qs learners default (λ x. lookup (eq x) (seen ++ e ∷ [])) s'
  passed_over h same = record {
    same_quorum_set = same.quorum_set ∙ u.same_quorum_set;
    voters = λ x. same.is_voter x ∙ u.voters x;
    value = λ x t. val x t (eq e.0 x) refl;
    others = λ x t. same.value x ∙ u.others x t;
    default_part = same.default_part ∙ u.default_part;
  }
    where
      val : (x : ID) → is_in x ≡ true → (b : Bool) → eq e.0 x ≡ b → Inherits IsClone default (lookup (eq x) (seen ++ e ∷ [])) (s'.value x)
      val x t true q =
          let d : HasClone IsClone default (s.value x) =
          subst (λ (o : Option V). Inherits IsClone default o (s.value x)) (seen_alike x q) (u.value x t) in
          absurd (no_value _ _ (sym (alike e.0 x q) ∙ h) d.1)
      val x t false q = rw (lookup_other (eq x) seen e (laws.symm x e.0 ∙ q), same.value x) (u.value x t)

-- an entry's own value
pub own_value : {ID V : Type 0} {eq : ID → ID → Bool} (laws : IsEquivalence eq) (es : List (ID × V)) (k : ℕ) (d : ID × V) → k < length es
    → IsDistinct eq (keys_of es) → lookup (eq (get_or es k d).0) es ≡ Some (get_or es k d).1
own_value laws es k d l h = lookup_from_place laws es k (get_or es k d).0 (get_or es k d).1 h (slice_get-get_or es k d l)

-- nothing has been inherited yet
pub upgraded_none : {ID V P QS : Type 0} (eq : ID → ID → Bool) (IsClone : V → V → Type 0) (part : V → P) (is_voter : ID → Bool) (qs : QS)
    (learners : List ID) (default : V) (s : ProgressState ID V P QS) → IsNew eq IsClone part is_voter qs learners default s
    → IsUpgraded eq IsClone part is_voter qs learners default (λ x. None) s
upgraded_none eq IsClone part is_voter qs learners default s n = record {
  same_quorum_set = n.same_quorum_set;
  voters = n.voters;
  value = n.value;
  others = n.others;
  default_part = n.default_part;
}
