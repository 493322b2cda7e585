-- The greatest part that the list of voters gives is the counted one.
use Rattle.std.specs.Prelude.{◌≡◌, ℕ, Bool, true, false, cond, ◌&&◌, ◌||◌, List, [], ◌∷◌, filter, take, All, Some}
use Rattle.std.specs.Ordering.{is_le}
use Rattle.std.specs.declared.cmp.Ordering.{Ordering}
use Rattle.std.specs.Cmp.{IsEquivalence, IsTotalOrder}
use Rattle.std.specs.Map.{keys_of, lookup}
use Rattle.std.specs.Set.{is_member}
use Rattle.std.specs.List.{IsDistinct, AllByRecursion}
use Rattle.std.proofs.Common.{sym, ap, refl, ◌∙◌, true≢false, get_or, inl, inr, subst, suc, zero}
use Rattle.std.proofs.lemmas.Bool.{or_right}
use Rattle.std.proofs.lemmas.Cmp.{tied_itself}
use Rattle.std.proofs.lemmas.Option.{slice_get-get_or}
use Rattle.std.proofs.lemmas.Map.Entries.{lookup_from_place}
use Rattle.std.proofs.lemmas.List.Elements.{All-contains, All-take, All-from_recursion, recursion_from_All}
use Rattle.raft_progress.specs.progress.CountedValue.{AtMost, IsCounted, has_part, reached}
use Rattle.raft_progress.specs.Inner.Recount.{IsGreatest, at_least, reaches}
use Rattle.raft_progress.specs.progress.Entries.{state_of}
use Rattle.raft_progress.proofs.lemmas.ListLemmas.{all_weaker}

module _ {ID : Type 0} {eq : ID → ID → Bool} (laws : IsEquivalence eq) where
  -- a key that is apart from all keys is not among the first of them
  pub absent : (k x : ID) (n : ℕ) (ks : List ID) → AllByRecursion (λ y. eq k y ≡ false) ks → eq x k ≡ true
      → is_member eq (take n ks) x ≡ false
  absent k x zero ks a e = refl
  absent k x (suc n) [] a e = refl
  absent k x (suc n) (y ∷ ks) a e = rw (laws.congr x k y e, a.0) (absent k x n ks a.1 e)

  module _ {V P : Type 0} (cmp : P → P → Ordering) (part : V → P) where
    -- the gathered ids are those of the voters that have reached p
    pub reached_at : (p : P) (entries : List (ID × V)) (n : ℕ) → IsDistinct eq (keys_of entries) → (x : ID)
        → is_member eq (keys_of (filter (at_least cmp part p) (take n entries))) x
        ≡ (is_member eq (take n (keys_of entries)) x && has_part cmp part p (lookup (eq x) entries))
    unfolding IsDistinct
    reached_at p entries zero d x = refl
    reached_at p [] (suc n) d x = refl
    reached_at p (e ∷ es) (suc n) d x = by (eq x e.0) (is_le (cmp p (part e.1))) refl refl (reached_at p es n d.1 x)
      where
        by : (b c : Bool) → eq x e.0 ≡ b → is_le (cmp p (part e.1)) ≡ c
            → is_member eq (keys_of (filter (at_least cmp part p) (take n es))) x
            ≡ (is_member eq (take n (keys_of es)) x && has_part cmp part p (lookup (eq x) es))
            → is_member eq (keys_of (cond c (e ∷ filter (at_least cmp part p) (take n es)) (filter (at_least cmp part p) (take n es)))) x
            ≡ ((b || is_member eq (take n (keys_of es)) x) && has_part cmp part p (cond b (Some e.1) (lookup (eq x) es)))
        by true true t u h = rw (t, u) refl
        by true false t u h = h ∙ ap (λ b. b && has_part cmp part p (lookup (eq x) es)) (absent e.0 x n (keys_of es) d.0 t) ∙ sym u
        by false true t u h = rw t h
        by false false t u h = h

  -- each entry's key is among the keys
  pub members : {V : Type 0} (entries : List (ID × V)) (n : ℕ)
      → AllByRecursion (λ e. is_member eq (take n (keys_of entries)) e.0 ≡ true) (take n entries)
  members entries zero = tt
  members [] (suc n) = tt
  members {V} (e ∷ es) (suc n) = (
    ap (λ b. b || is_member eq (take n (keys_of es)) e.0) (laws.refl e.0),
    all_weaker _ (λ (f : ID × V). (eq f.0 e.0 || is_member eq (take n (keys_of es)) f.0) ≡ true) (λ f h. or_right _ _ h) (take n es)
        (members es n),
  )

  -- what holds of each voter's value holds of the value that is looked up at a voter's id
  pub voter_value : {V : Type 0} (R : V → Type 0) (entries : List (ID × V)) (n : ℕ) (x : ID) (v : V)
      → is_member eq (take n (keys_of entries)) x ≡ true → lookup (eq x) entries ≡ Some v → AllByRecursion (λ e. R e.1) (take n entries)
      → R v
  voter_value R entries zero x v m l a = absurd (true≢false (sym m))
  voter_value R [] (suc n) x v m l a = absurd (true≢false (sym m))
  voter_value {V} R (e ∷ es) (suc n) x v m l a = by (eq x e.0) m l (λ i j. voter_value R es n x v i j a.1)
    where
      by : (b : Bool) → (b || is_member eq (take n (keys_of es)) x) ≡ true → cond b (Some e.1) (lookup (eq x) es) ≡ Some v
          → (is_member eq (take n (keys_of es)) x ≡ true → lookup (eq x) es ≡ Some v → R v) → R v
      by true i j r = let same : e.1 ≡ v = cc in subst R same a.0
      by false i j r = r i j

  module _ {V P QS : Type 0} {cmp : P → P → Ordering} (o : IsTotalOrder cmp) (part : V → P) (has_quorum : QS → (ID → Bool) → Bool)
      (quorum_set : QS) (entries : List (ID × V)) (n : ℕ) (default : P) (d : IsDistinct eq (keys_of entries)) where
    pub same_test : (p : P) → reaches eq cmp part (has_quorum quorum_set) (take n entries) p
        ≡ has_quorum quorum_set (reached cmp part (state_of eq quorum_set entries n default) p)
    same_test p = ap (has_quorum quorum_set) (λ i x. reached_at cmp part p entries n d x i)

    pub found : All (λ e. lookup (eq e.0) entries ≡ Some e.1) entries
    found k e l = lookup_from_place laws entries k (get_or entries k e).0 (get_or entries k e).1 d (slice_get-get_or entries k e l)

    pub IsCounted-from_greatest : (g : P) → IsGreatest eq cmp part (has_quorum quorum_set) (take n entries) (take n entries) default g
        → IsCounted cmp part has_quorum (state_of eq quorum_set entries n default) g
    IsCounted-from_greatest g r = record {
      is_one = elim r.is_one [
        | inl e ↦ inl (rw e (tied_itself o default))
        | inr w ↦ inr (
          w.0.0,
          w.0.1,
          record {
            voter = All-contains (λ (e : ID × V). is_member eq (take n (keys_of entries)) e.0 ≡ true) (take n entries) w.0
                (All-from_recursion (λ (e : ID × V). is_member eq (take n (keys_of entries)) e.0 ≡ true) (take n entries)
                (members entries n)) w.1;
            value = All-contains (λ (e : ID × V). lookup (eq e.0) entries ≡ Some e.1) (take n entries) w.0
                (All-take (λ (e : ID × V). lookup (eq e.0) entries ≡ Some e.1) n entries found) w.1;
            quorum = sym (same_test (part w.0.1)) ∙ w.3;
          },
          rw w.2 (tied_itself o g),
        )
      ];
      default_at_most = r.default_at_most;
      others_at_most = λ x v k.
          voter_value (λ (u : V). reaches eq cmp part (has_quorum quorum_set) (take n entries) (part u) ≡ true
          → AtMost cmp (part u) g) entries n
          x v k.voter k.value
          (recursion_from_All (λ (e : ID × V). reaches eq cmp part (has_quorum quorum_set) (take n entries) (part e.1) ≡ true
          → AtMost cmp (part e.1) g) (take n entries) r.others_at_most)
          (same_test (part v) ∙ k.quorum);
    }
