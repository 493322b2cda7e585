-- A progress whose values are all clones of the default.
use Rattle.std.specs.Prelude.{◌≡◌, ℕ, ◌≤◌, Bool, true, false, cond, ◌||◌, List, [], ◌∷◌, ◌++◌, length, take, Some, None}
use Rattle.std.specs.Ordering.{is_lt, eq_by_cmp}
use Rattle.std.specs.declared.cmp.Ordering.{Ordering}
use Rattle.std.specs.Cmp.{IsEquivalence, IsTotalOrder}
use Rattle.std.specs.Map.{keys_of, lookup}
use Rattle.std.specs.Set.{is_member}
use Rattle.std.specs.List.{IsDistinct, AllByRecursion}
use Rattle.std.specs.List.Sorted.{IsStrictlySortedBy}
use Rattle.std.proofs.Common.{arith, sym, ap, refl, ◌∙◌, true≢false, inl, subst, suc, zero, length-append}
use Rattle.std.proofs.lemmas.Bool.{or_right}
use Rattle.std.proofs.lemmas.Cmp.{tied_itself}
use Rattle.std.proofs.lemmas.Map.Keys.{IsDistinct-from_sorted}
use Rattle.raft_progress.specs.progress.CountedValue.{AtMost}
use Rattle.raft_progress.specs.progress.InOrder.{AreEntriesInOrder}
use Rattle.raft_progress.specs.Inner.Placed.{IsPlaced}
use Rattle.raft_progress.specs.progress.NewProgress.{IsNew, LearnersFit}
use Rattle.raft_progress.specs.progress.Entries.{IsFalling, state_of}
use Rattle.raft_progress.proofs.lemmas.OrderLemmas.{AtMost-refl}
use Rattle.raft_progress.proofs.lemmas.progress.entries.EntriesLemmas.{no_value}

-- distinct by the type's own `==`
pub IsDistinct-from_cmp : {K : Type 0} {eq : K → K → Bool} (cmp : K → K → Ordering) → ((x y : K) → eq x y ≡ eq_by_cmp cmp x y)
    → (ks : List K) → IsStrictlySortedBy cmp ks → IsDistinct eq ks
IsDistinct-from_cmp {K} cmp ties ks s = subst (λ (e : K → K → Bool). IsDistinct e ks) (λ i x y. sym (ties x y) i)
    (IsDistinct-from_sorted cmp ks s)

take_front : {K : Type 0} (ks ls : List K) → take (length ks) (ks ++ ls) ≡ ks
take_front [] ls = refl
take_front (k ∷ ks) ls = ap (λ xs. k ∷ xs) (take_front ks ls)

or_assoc : (a b c : Bool) → (a || (b || c)) ≡ ((a || b) || c)
or_assoc true b c = refl
or_assoc false b c = refl

or_false : (a b : Bool) → (a || b) ≡ false → (a ≡ false) × (b ≡ false)
or_false true b e = absurd (true≢false e)
or_false false b e = (refl, e)

all_append : {K : Type 0} (P : K → Type 0) (xs ys : List K) → AllByRecursion P xs → AllByRecursion P ys → AllByRecursion P (xs ++ ys)
all_append P [] ys a b = b
all_append P (x ∷ xs) ys a b = (a.0, all_append P xs ys a.1 b)

keys_append : {ID V : Type 0} (es fs : List (ID × V)) → keys_of (es ++ fs) ≡ keys_of es ++ keys_of fs
keys_append [] fs = refl
keys_append (e ∷ es) fs = ap (λ ks. e.0 ∷ ks) (keys_append es fs)

length_keys : {ID V : Type 0} (es : List (ID × V)) → length (keys_of es) ≡ length es
length_keys [] = refl
length_keys (e ∷ es) = ap suc (length_keys es)

-- the voters are among the entries
pub voters_within : {ID V : Type 0} (es : List (ID × V)) (ids learners : List ID) (n : ℕ) → keys_of es ≡ ids ++ learners → n ≡ length ids
    → n ≤ length es
voters_within es ids learners n k c =
    omega (arith, length_keys es, ap length k, length-append ids learners, c)

-- two lists of ids, put one after the other into what was empty
module _ {ID V : Type 0} {IsClone : V → V → Type 0} {default : V} (ids learners : List ID) (none first last : List (ID × V)) where
  pub keys_placed : none ≡ [] → IsPlaced IsClone default ids none first → IsPlaced IsClone default learners first last
      → keys_of last ≡ ids ++ learners
  keys_placed n a b = ap keys_of b.is ∙ keys_append first b.added
      ∙ ap (λ ks. ks ++ keys_of b.added) (ap keys_of (a.is ∙ ap (λ es. es ++ a.added) n) ∙ a.keys) ∙ ap (λ ks. ids ++ ks) b.keys

  pub all_placed : none ≡ [] → IsPlaced IsClone default ids none first → IsPlaced IsClone default learners first last
      → AllByRecursion (λ e. IsClone default e.1) last
  all_placed n a b = subst (λ (es : List (ID × V)). AllByRecursion (λ e. IsClone default e.1) es) (sym b.is)
      (all_append _ first b.added (subst (λ (es : List (ID × V)). AllByRecursion (λ e. IsClone default e.1) es)
      (sym (a.is ∙ ap (λ es. es ++ a.added) n)) a.clones) b.clones)

module _ {ID : Type 0} {eq : ID → ID → Bool} (laws : IsEquivalence eq) where
  member_append : (ks ls : List ID) (x : ID) → is_member eq (ks ++ ls) x ≡ (is_member eq ks x || is_member eq ls x)
  member_append [] ls x = refl
  member_append (k ∷ ks) ls x = ap (λ b. eq x k || b) (member_append ks ls x) ∙ or_assoc (eq x k) (is_member eq ks x) (is_member eq ls x)

  -- an id that is no key has no value
  lookup_other : {V : Type 0} (es : List (ID × V)) (x : ID) → is_member eq (keys_of es) x ≡ false → lookup (eq x) es ≡ None
  lookup_other [] x h = refl
  lookup_other (e ∷ es) x h = let o = or_false (eq x e.0) (is_member eq (keys_of es) x) h in rw o.0 (lookup_other es x o.1)

  -- a key has a value, and what holds of each value holds of it
  lookup_key : {V : Type 0} (R : V → Type 0) (es : List (ID × V)) (x : ID) → is_member eq (keys_of es) x ≡ true
      → AllByRecursion (λ e. R e.1) es → (w : V) × (lookup (eq x) es ≡ Some w) × R w
  lookup_key R [] x h a = absurd (true≢false (sym h))
  lookup_key {V} R (e ∷ es) x h a = by (eq x e.0) h (λ m. lookup_key R es x m a.1)
    where
      by : (b : Bool) → (b || is_member eq (keys_of es) x) ≡ true
          → (is_member eq (keys_of es) x ≡ true → (w : V) × (lookup (eq x) es ≡ Some w) × R w)
          → (w : V) × (cond b (Some e.1) (lookup (eq x) es) ≡ Some w) × R w
      by true m r = (e.1, refl, a.0)
      by false m r = r m

  lookup_all : {V : Type 0} (R : V → Type 0) (es : List (ID × V)) (x : ID) (u : V) → lookup (eq x) es ≡ Some u
      → AllByRecursion (λ e. R e.1) es → R u
  lookup_all R [] x u h a = absurd (no_value (lookup (eq x) []) u refl h)
  lookup_all {V} R (e ∷ es) x u h a = by (eq x e.0) h (λ m. lookup_all R es x u m a.1)
    where
      by : (b : Bool) → cond b (Some e.1) (lookup (eq x) es) ≡ Some u → (lookup (eq x) es ≡ Some u → R u) → R u
      by true m r = let same : e.1 ≡ u = cc in subst R same a.0
      by false m r = r m

  all_from_members : (k : ID) (ls : List ID) → ((y : ID) → is_member eq ls y ≡ true → eq k y ≡ false)
      → AllByRecursion (λ y. eq k y ≡ false) ls
  all_from_members k [] h = tt
  all_from_members k (l ∷ ls) h = (
    h l (ap (λ b. b || is_member eq ls l) (laws.refl l)),
    all_from_members k ls
        (λ y m. h y (or_right (eq y l) (is_member eq ls y) m)),
  )

  IsDistinct-append : (ks ls : List ID) → IsDistinct eq ks → IsDistinct eq ls
      → ((y : ID) → is_member eq ls y ≡ true → is_member eq ks y ≡ false) → IsDistinct eq (ks ++ ls)
  unfolding IsDistinct
  IsDistinct-append [] ls d e h = e
  IsDistinct-append (k ∷ ks) ls d e h = (
    all_append _ ks ls d.0 (all_from_members k ls (λ y m. laws.symm k y ∙ (or_false (eq y k) (is_member eq ks y) (h y m)).0)),
    IsDistinct-append ks ls d.1 e (λ y m. (or_false (eq y k) (is_member eq ks y) (h y m)).1),
  )

  -- the ids of voters, each once, and of learners that fit are distinct
  pub distinct_with_learners : (is_voter : ID → Bool) (ids learners : List ID) → IsDistinct eq ids
      → ((x : ID) → is_member eq ids x ≡ is_voter x) → LearnersFit eq is_voter learners → IsDistinct eq (ids ++ learners)
  distinct_with_learners is_voter ids learners distinct voters fit =
      IsDistinct-append ids learners distinct fit.distinct (λ y m. voters y ∙ fit.no_voters y m)

  module _ {V P QS : Type 0} {cmp : P → P → Ordering} (o : IsTotalOrder cmp) (part : V → P) (has_quorum : QS → (ID → Bool) → Bool)
      (IsClone : V → V → Type 0) (is_voter : ID → Bool) (set : QS) (ids learners : List ID) (v : V)
      (same_part : (w : V) → IsClone v w → part w ≡ part v) (entries : List (ID × V)) (n : ℕ) (p : P) (distinct : IsDistinct eq ids)
      (voters : (x : ID) → is_member eq ids x ≡ is_voter x) (fit : LearnersFit eq is_voter learners)
      (keys : keys_of entries ≡ ids ++ learners)
      (clones : AllByRecursion (λ e. IsClone v e.1) entries) (counted : n ≡ length ids) (default : p ≡ part v) where
    prefix : take n (keys_of entries) ≡ ids
    prefix = rw (counted, keys) (take_front ids learners)

    is_key : (x : ID) → is_member eq (keys_of entries) x ≡ (is_voter x || is_member eq learners x)
    is_key x = ap (λ ks. is_member eq ks x) keys ∙ member_append ids learners x ∙ ap (λ b. b || is_member eq learners x) (voters x)

    part_at : (x : ID) (u : V) → lookup (eq x) entries ≡ Some u → part u ≡ p
    part_at x u e = lookup_all (λ w. part w ≡ p) entries x u e (all_parts entries clones)
      where
        all_parts : (es : List (ID × V)) → AllByRecursion (λ e. IsClone v e.1) es → AllByRecursion (λ e. part e.1 ≡ p) es
        all_parts [] a = tt
        all_parts (e ∷ es) a = (same_part e.1 a.0 ∙ sym default, all_parts es a.1)

    -- no part exceeds the default's
    falling_at : (k : ℕ) (es : List (ID × V)) → AllByRecursion (λ e. IsClone v e.1) es → IsFalling cmp part p (take k es)
    falling_at zero es a = tt
    falling_at (suc k) [] a = tt
    falling_at (suc k) (e ∷ es) a = (none k es a.1, falling_at k es a.1)
      where
        none : (k : ℕ) (fs : List (ID × V)) → AllByRecursion (λ f. IsClone v f.1) fs
            → AllByRecursion (λ f. is_lt (cmp p (part f.1)) ≡ true → AtMost cmp (part f.1) (part e.1)) (take k fs)
        none zero fs b = tt
        none (suc k) [] b = tt
        none (suc k) (f ∷ fs) b = ((λ _. rw (same_part f.1 b.0, same_part e.1 a.0) (AtMost-refl o (part v))), none k fs b.1)

    pub fresh_is_new : IsNew eq IsClone part is_voter set learners v (state_of eq set entries n p)
    fresh_is_new = record {
      same_quorum_set = refl;
      voters = λ x. ap (λ ks. is_member eq ks x) prefix ∙ voters x;
      value = λ x h. lookup_key (IsClone v) entries x (is_key x ∙ h) clones;
      others = λ x h. lookup_other entries x (is_key x ∙ h);
      default_part = default;
    }

    pub fresh_in_order : AreEntriesInOrder eq cmp part has_quorum set entries n p p
    fresh_in_order = record {
      falling = falling_at n entries clones;
      distinct = rw keys (distinct_with_learners is_voter ids learners distinct voters fit);
      not_below = λ x u m l. rw (part_at x u l) (AtMost-refl o p);
      counted = record {
        is_one = inl (tied_itself o p);
        default_at_most = AtMost-refl o p;
        others_at_most = λ x u r. rw (part_at x u r.value) (AtMost-refl o p);
      };
    }
