-- The test whether a progress is in order returns what its definition says.
use Rattle.std.specs.Prelude.{◌≡◌, ℕ, ◌+◌, ◌≤◌, Bool, true, false, ◌&&◌, ◌||◌, List, [], ◌∷◌, ◌++◌, length, drop, take, Some, if◌then◌else◌, ◌⊎◌}
use Rattle.std.specs.declared.cmp.Ordering.{Ordering}
use Rattle.std.specs.declared.cmp.Ordering.TheVariants.{Less, Equal, Greater}
use Rattle.std.specs.Ordering.{is_le, is_lt, is_eq}
use Rattle.std.specs.Cmp.{IsEquivalence, IsTotalOrder, first_so, second_so}
use Rattle.std.specs.Map.{keys_of, lookup}
use Rattle.std.specs.Set.{is_member}
use Rattle.std.specs.List.{IsDistinct, AllByRecursion, list_any, list_all}
use Rattle.std.proofs.Common.{arith, sym, ap, refl, ◌∙◌, true≢false, inl, inr, subst, suc, zero}
use Rattle.std.proofs.lemmas.Bool.{or_right}
use Rattle.std.proofs.Math.Seq.{take-append_seam}
use Rattle.std.proofs.lemmas.List.{map-append}
use Rattle.std.proofs.lemmas.List.Elements.{All-take, recursion_from_All}
use Rattle.raft_progress.specs.progress.CountedValue.{AtMost, IsCounted, IsReached}
use Rattle.raft_progress.specs.progress.ProgressState.{ProgressState}
use Rattle.raft_progress.specs.progress.Entries.{IsFalling}
use Rattle.raft_progress.specs.Inner.Recount.{at_least}
use Rattle.raft_progress.specs.Inner.Conditions.{ids_differ, never_rises}
use Rattle.raft_members.proofs.CallerLemmas.{is_member-alike}
use Rattle.raft_progress.proofs.lemmas.progress.UpdateLemmas.{IsDistinct-voters}
use Rattle.raft_progress.proofs.lemmas.progress.upgrade.LearnersFitLemmas.{distinct_fits, fits_distinct, neither}
use Rattle.raft_progress.proofs.lemmas.OrderLemmas.{AtMost-trans, AtMost-from_not_lt, lt_le}
use Rattle.raft_progress.proofs.lemmas.progress.recount.CountedValueLemmas.{not_both}
use Rattle.raft_progress.proofs.lemmas.progress.recount.CountedAfreshLemmas.{found, members, voter_value}

if_false : (a b : Bool) → (if a then false else b) ≡ true → (a ≡ false) × (b ≡ true)
if_false true b h = absurd (true≢false (sym h))
if_false false b h = (refl, h)

-- ---- distinct ids

module _ {ID : Type 0} {eq : ID → ID → Bool} (laws : IsEquivalence eq) {V : Type 0} where
  none_alike : (es : List (ID × V)) (k : ID) → list_any (λ f. eq f.0 k) es ≡ false → AllByRecursion (λ y. eq k y ≡ false) (keys_of es)
  none_alike [] k h = tt
  none_alike (e ∷ es) k h = by (eq e.0 k) refl h (none_alike es k)
    where
      by : (b : Bool) → eq e.0 k ≡ b → (b || list_any (λ f. eq f.0 k) es) ≡ false
          → (list_any (λ f. eq f.0 k) es ≡ false → AllByRecursion (λ y. eq k y ≡ false) (keys_of es))
          → (eq k e.0 ≡ false) × AllByRecursion (λ y. eq k y ≡ false) (keys_of es)
      by true t u r = absurd (true≢false u)
      by false t u r = (laws.symm k e.0 ∙ t, r u)

  some_alike : (es : List (ID × V)) (k : ID) → AllByRecursion (λ y. eq k y ≡ false) (keys_of es) → list_any (λ f. eq f.0 k) es ≡ false
  some_alike [] k a = refl
  some_alike (e ∷ es) k a = rw (laws.symm e.0 k, a.0) (some_alike es k a.1)

  pub distinct_from_test : (es : List (ID × V)) → ids_differ eq es ≡ true → IsDistinct eq (keys_of es)
  unfolding IsDistinct
  distinct_from_test [] h = tt
  distinct_from_test (e ∷ es) h = let t = if_false (list_any (λ f. eq f.0 e.0) es) (ids_differ eq es) h in
      (none_alike es e.0 t.0, distinct_from_test es t.1)

  pub test_from_distinct : (es : List (ID × V)) → IsDistinct eq (keys_of es) → ids_differ eq es ≡ true
  unfolding IsDistinct
  test_from_distinct [] d = refl
  test_from_distinct (e ∷ es) d = rw (some_alike es e.0 d.0) (test_from_distinct es d.1)

-- tests that imply each other return the same
pub same_test : (a b : Bool) → (a ≡ true → b ≡ true) → (b ≡ true → a ≡ true) → a ≡ b
same_test true b h k = sym (h refl)
same_test false true h k = k refl
same_test false false h k = refl

-- ---- ids that are distinct among the voters and among the learners

module _ {ID : Type 0} {eq : ID → ID → Bool} (laws : IsEquivalence eq) {V : Type 0} (vs : List (ID × V)) where
  any_is : (es : List (ID × V)) (k : ID) → list_any (λ f. eq f.0 k) es ≡ is_member eq (keys_of es) k
  any_is [] k = refl
  any_is (e ∷ es) k = rw (laws.symm e.0 k, any_is es k) refl

  none_shared : (ls : List (ID × V)) → list_any (λ e. list_any (λ f. eq f.0 e.0) vs) ls ≡ false → (x : ID)
      → is_member eq (keys_of ls) x ≡ true → is_member eq (keys_of vs) x ≡ false
  none_shared [] h x m = absurd (true≢false (sym m))
  none_shared (e ∷ es) h x m =
      let n = neither (list_any (λ f. eq f.0 e.0) vs) (list_any (λ e. list_any (λ f. eq f.0 e.0) vs) es) h in
      by (eq x e.0) refl m n.0 (none_shared es n.1 x)
    where
      by : (b : Bool) → eq x e.0 ≡ b → (b || is_member eq (keys_of es) x) ≡ true → list_any (λ f. eq f.0 e.0) vs ≡ false
          → (is_member eq (keys_of es) x ≡ true → is_member eq (keys_of vs) x ≡ false) → is_member eq (keys_of vs) x ≡ false
      by true t m n r = is_member-alike laws x e.0 t (keys_of vs) ∙ sym (any_is vs e.0) ∙ n
      by false t m n r = r m

  shared_by_none : (ls : List (ID × V)) → ((x : ID) → is_member eq (keys_of ls) x ≡ true → is_member eq (keys_of vs) x ≡ false)
      → list_any (λ e. list_any (λ f. eq f.0 e.0) vs) ls ≡ false
  shared_by_none [] h = refl
  shared_by_none (e ∷ es) h = rw (
    any_is vs e.0,
    h e.0 (ap (λ b. b || is_member eq (keys_of es) e.0) (laws.refl e.0)),
  ) (shared_by_none es (λ x m. h x (or_right (eq x e.0) (is_member eq (keys_of es) x) m)))

  pub joined_from_tests : (ls : List (ID × V)) → IsDistinct eq (keys_of vs) → ids_differ eq ls ≡ true
      → list_any (λ e. list_any (λ f. eq f.0 e.0) vs) ls ≡ false → IsDistinct eq (keys_of (vs ++ ls))
  joined_from_tests ls d t n =
      subst (IsDistinct eq) (sym (map-append (λ (e : ID × V). e.0) vs ls))
      (fits_distinct laws (keys_of vs) (is_member eq (keys_of vs)) (λ x. refl) (keys_of ls) d
      record { distinct = distinct_from_test laws ls t; no_voters = none_shared ls n })

  -- what the tests return if the ids are distinct
  pub tests_from_joined : (ls : List (ID × V)) → IsDistinct eq (keys_of (vs ++ ls))
      → IsDistinct eq (keys_of vs) × (ids_differ eq ls ≡ true) × (list_any (λ e. list_any (λ f. eq f.0 e.0) vs) ls ≡ false)
  tests_from_joined ls d =
      let joined = subst (IsDistinct eq) (map-append (λ (e : ID × V). e.0) vs ls) d in
      let fit = distinct_fits laws (keys_of vs) (is_member eq (keys_of vs)) (λ x. refl) (keys_of ls) joined in (
        subst (λ (es : List (ID × V)). IsDistinct eq (keys_of es)) (take-append_seam vs ls)
            (IsDistinct-voters laws (length vs) (vs ++ ls) d),
        test_from_distinct laws ls fit.distinct,
        shared_by_none ls fit.no_voters,
      )

-- ---- falling parts

and_lt : (a b : Bool) → (a && b) ≡ false → a ≡ true → b ≡ false
and_lt true b h e = h
and_lt false b h e = absurd (true≢false (sym e))

module _ {ID V P : Type 0} {cmp : P → P → Ordering} (o : IsTotalOrder cmp) (part : V → P) (g : P) where
  -- if an entry does not come after a lesser one, no later entry does
  behind : (e : ID × V) (es : List (ID × V)) → never_rises cmp part g (e ∷ es) ≡ true
      → AllByRecursion (λ f. is_lt (cmp g (part f.1)) ≡ true → AtMost cmp (part f.1) (part e.1)) es
  behind e [] h = tt
  behind e (f ∷ es) h =
      let t = if_false (is_lt (cmp g (part f.1)) && is_lt (cmp (part e.1) (part f.1))) (never_rises cmp part g (f ∷ es)) h in
      let here : is_lt (cmp g (part f.1)) ≡ true → AtMost cmp (part f.1) (part e.1) =
      λ a. AtMost-from_not_lt o (part e.1) (part f.1) (and_lt _ _ t.0 a) in
      (here, further f here es (behind f es t.1))
    where
      further : (f : ID × V) → (is_lt (cmp g (part f.1)) ≡ true → AtMost cmp (part f.1) (part e.1)) → (hs : List (ID × V))
          → AllByRecursion (λ h. is_lt (cmp g (part h.1)) ≡ true → AtMost cmp (part h.1) (part f.1)) hs
          → AllByRecursion (λ h. is_lt (cmp g (part h.1)) ≡ true → AtMost cmp (part h.1) (part e.1)) hs
      further f here [] a = tt
      further f here (h ∷ hs) a = (
        (λ q. AtMost-trans o (part h.1) (part f.1) (part e.1) (a.0 q) (here (lt_le o g (part h.1) (part f.1) q (a.0 q)))),
        further f here hs a.1,
      )

  pub falling_from_test : (es : List (ID × V)) → never_rises cmp part g es ≡ true → IsFalling cmp part g es
  falling_from_test [] h = tt
  falling_from_test (e ∷ []) h = (tt, tt)
  falling_from_test (e ∷ f ∷ es) h = (
    behind e (f ∷ es) h,
    falling_from_test (f ∷ es)
        (if_false (is_lt (cmp g (part f.1)) && is_lt (cmp (part e.1) (part f.1))) (never_rises cmp part g (f ∷ es)) h).1,
  )

  pub test_from_falling : (es : List (ID × V)) → IsFalling cmp part g es → never_rises cmp part g es ≡ true
  test_from_falling [] h = refl
  test_from_falling (e ∷ []) h = refl
  test_from_falling (e ∷ f ∷ es) h = by (is_lt (cmp g (part f.1))) (is_lt (cmp (part e.1) (part f.1))) refl refl
      (test_from_falling (f ∷ es) h.1)
    where
      by : (a b : Bool) → is_lt (cmp g (part f.1)) ≡ a → is_lt (cmp (part e.1) (part f.1)) ≡ b → never_rises cmp part g (f ∷ es) ≡ true
          → (if a && b then false else never_rises cmp part g (f ∷ es)) ≡ true
      by true true t u r = absurd (not_both o (part e.1) (part f.1) u (h.0.0 t))
      by true false t u r = r
      by false b t u r = r

-- a single entry comes after none
pub last_falls : {ID V P : Type 0} (cmp : P → P → Ordering) (part : V → P) (g : P) (es : List (ID × V)) (k : ℕ) → length es ≤ k + 1
    → never_rises cmp part g (drop k es) ≡ true
last_falls cmp part g [] zero l = refl
last_falls cmp part g [] (suc k) l = refl
last_falls cmp part g (e ∷ []) zero l = refl
last_falls cmp part g (e ∷ f ∷ es) zero l = absurd (omega arith)
last_falls cmp part g (e ∷ es) (suc k) l = last_falls cmp part g es k (omega arith)

-- ---- the counted value

module _ {P : Type 0} {cmp : P → P → Ordering} (o : IsTotalOrder cmp) where
  back : (a b : P) → cmp a b ≡ Equal → AtMost cmp b a
  back a b e = AtMost-from_not_lt o a b (ap is_lt e)

  tie : (a b : P) → AtMost cmp a b → AtMost cmp b a → cmp a b ≡ Equal
  tie a b h k = by (cmp a b) refl
    where
      by : (r : Ordering) → cmp a b ≡ r → r ≡ Equal
      by Equal t = refl
      by Less t = absurd (not_both o a b (ap is_lt t) k)
      by Greater t = absurd (true≢false (sym h ∙ ap is_le t))

  tied_with : (a g h : P) → cmp a g ≡ Equal → cmp g h ≡ Equal → cmp a h ≡ Equal
  tied_with a g h t e = tie a h (AtMost-trans o a g h (ap is_le t) (ap is_le e)) (AtMost-trans o h g a (back g h e) (back a g t))

module _ {ID V P QS : Type 0} {cmp : P → P → Ordering} (o : IsTotalOrder cmp) (part : V → P) (has_quorum : QS → (ID → Bool) → Bool)
    (s : ProgressState ID V P QS) where
  counted_at_most : (g h : P) → IsCounted cmp part has_quorum s g → IsCounted cmp part has_quorum s h → AtMost cmp g h
  counted_at_most g h c d =
      elim c.is_one as (λ _. AtMost cmp g h) [
        | inl e ↦ AtMost-trans o g s.default_part h (back o s.default_part g e) d.default_at_most
        | inr w ↦ AtMost-trans o g (part w.1) h (back o (part w.1) g w.3) (d.others_at_most w.0 w.1 w.2)
      ]

  -- there is one counted value, up to the order's own equality
  pub counted_once : (g h : P) → IsCounted cmp part has_quorum s g → IsCounted cmp part has_quorum s h → cmp g h ≡ Equal
  counted_once g h c d = tie o g h (counted_at_most g h c d) (counted_at_most h g d c)

  -- and what ties with it is counted too
  pub counted_tied : (g h : P) → IsCounted cmp part has_quorum s g → cmp g h ≡ Equal → IsCounted cmp part has_quorum s h
  counted_tied g h c e = record {
    is_one = elim c.is_one as (λ _. (cmp s.default_part h ≡ Equal)
        ⊎ ((x : ID) × (v : V) × IsReached cmp part has_quorum s x v × (cmp (part v) h ≡ Equal))) [
          | inl t ↦ inl (tied_with o s.default_part g h t e)
          | inr w ↦ inr (w.0, w.1, w.2, tied_with o (part w.1) g h w.3 e)
        ];
    default_at_most = AtMost-trans o s.default_part g h c.default_at_most up;
    others_at_most = λ x v r. AtMost-trans o (part v) g h (c.others_at_most x v r) up;
  }
    where
      up : AtMost cmp g h
      up = ap is_le e

pub equal_from_test : (r : Ordering) → is_eq r ≡ true → r ≡ Equal
equal_from_test Equal h = refl
equal_from_test Less h = absurd (true≢false (sym h))
equal_from_test Greater h = absurd (true≢false (sym h))

-- ---- parts that are not below the default's

all_pass : {X : Type 0} (P Q : X → Type 0) (t : X → Bool) → ((x : X) → P x → Q x → t x ≡ true) → (xs : List X) → AllByRecursion P xs
    → AllByRecursion Q xs → list_all t xs ≡ true
all_pass P Q t f [] a b = refl
all_pass P Q t f (x ∷ xs) a b = rw (f x a.0 b.0) (all_pass P Q t f xs a.1 b.1)

each_passes : {X : Type 0} (t : X → Bool) (xs : List X) → list_all t xs ≡ true → AllByRecursion (λ x. t x ≡ true) xs
each_passes t [] h = tt
each_passes t (x ∷ xs) h = (first_so _ _ h, each_passes t xs (second_so _ _ h))

module _ {ID V P QS : Type 0} {eq : ID → ID → Bool} (laws : IsEquivalence eq) {cmp : P → P → Ordering} (o : IsTotalOrder cmp) (part : V → P)
    (has_quorum : QS → (ID → Bool) → Bool) (quorum_set : QS) (entries : List (ID × V)) (n : ℕ) (d0 : P)
    (d : IsDistinct eq (keys_of entries)) where
  pub lowest_from_test : list_all (at_least cmp part d0) (take n entries) ≡ true → (x : ID) (v : V)
      → is_member eq (take n (keys_of entries)) x ≡ true → lookup (eq x) entries ≡ Some v → AtMost cmp d0 (part v)
  lowest_from_test h x v m l = voter_value laws (λ (u : V). AtMost cmp d0 (part u)) entries n x v m l
      (each_passes (at_least cmp part d0) (take n entries) h)

  pub test_from_lowest : ((x : ID) (v : V) → is_member eq (take n (keys_of entries)) x ≡ true → lookup (eq x) entries ≡ Some v
      → AtMost cmp d0 (part v)) → list_all (at_least cmp part d0) (take n entries) ≡ true
  test_from_lowest low =
      all_pass (λ (e : ID × V). is_member eq (take n (keys_of entries)) e.0 ≡ true) (λ e. lookup (eq e.0) entries ≡ Some e.1)
      (at_least cmp part d0) (λ e m l. low e.0 e.1 m l) (take n entries) (members laws entries n)
      (recursion_from_All (λ (e : ID × V). lookup (eq e.0) entries ≡ Some e.1) (take n entries)
      (All-take (λ (e : ID × V). lookup (eq e.0) entries ≡ Some e.1) n entries (found laws o part has_quorum quorum_set entries n d0 d)))
