-- If the ids and voters' parts of a progress are as they were, it is in order if it was.
use Rattle.std.specs.Prelude.{◌≡◌, ℕ, Bool, true, false, ◌||◌, cond, List, [], ◌∷◌, Option, Some, None, map, take}
use Rattle.std.specs.Ordering.{is_le, is_lt}
use Rattle.std.specs.declared.cmp.Ordering.{Ordering}
use Rattle.std.specs.List.{AllByRecursion, IsDistinct}
use Rattle.std.specs.Map.{keys_of, lookup, set_value}
use Rattle.std.specs.Option.{option_map}
use Rattle.std.specs.Set.{is_member}
use Rattle.std.proofs.Common.{ap, inl, inr, refl, subst, suc, sym, zero, ◌∙◌, true≢false}
use Rattle.raft_progress.specs.progress.CountedValue.{AtMost, IsCounted, IsReached, has_part, reached}
use Rattle.raft_progress.specs.progress.InOrder.{IsInOrder}
use Rattle.raft_progress.specs.progress.ProgressState.{ProgressState}
use Rattle.raft_progress.specs.progress.ProgressView.{ProgressView, state}
use Rattle.raft_progress.specs.progress.Entries.{IsFalling}
use Rattle.raft_progress.proofs.lemmas.progress.entries.EntriesLemmas.{no_value}

-- the two states have the same quorums and voters, and each voter has the same part
pub record HasSameParts {ID V P QS : Type 0} (part : V → P) (has_quorum : QS → (ID → Bool) → Bool)
    (old new : ProgressState ID V P QS) : Type 0 where
  pub quorums : (set : ID → Bool) → has_quorum new.quorum_set set ≡ has_quorum old.quorum_set set
  pub voters : (x : ID) → new.is_voter x ≡ old.is_voter x
  pub default_part : new.default_part ≡ old.default_part
  pub parts : (x : ID) → old.is_voter x ≡ true → option_map part (new.value x) ≡ option_map part (old.value x)

-- a value that has the part of one that is there
same_part : {V P : Type 0} (part : V → P) (a b : Option V) (v : V) → option_map part a ≡ option_map part b → a ≡ Some v
    → (w : V) × (b ≡ Some w) × (part v ≡ part w)
same_part part None b v e h = absurd (no_value _ _ refl h)
same_part part (Some u) None v e h = cc
same_part part (Some u) (Some w) v e h = (w, refl, cc)

has_part_alike : {V P : Type 0} (cmp : P → P → Ordering) (part : V → P) (p : P) (a b : Option V) → option_map part a ≡ option_map part b
    → has_part cmp part p a ≡ has_part cmp part p b
has_part_alike cmp part p None None e = refl
has_part_alike cmp part p None (Some w) e = cc
has_part_alike cmp part p (Some v) None e = cc
has_part_alike cmp part p (Some v) (Some w) e = let same : part v ≡ part w = cc in ap (λ q. is_le (cmp p q)) same

module _ {ID V P QS : Type 0} (cmp : P → P → Ordering) (part : V → P) (has_quorum : QS → (ID → Bool) → Bool) where
  reached_alike : (old new : ProgressState ID V P QS) → HasSameParts part has_quorum old new → (p : P)
      → reached cmp part new p ≡ reached cmp part old p
  reached_alike old new k p = λ i x. by x (old.is_voter x) refl i
    where
      by : (x : ID) (b : Bool) → old.is_voter x ≡ b → reached cmp part new p x ≡ reached cmp part old p x
      by x true t = rw (k.voters x, t) (has_part_alike cmp part p (new.value x) (old.value x) (k.parts x t))
      by x false t = rw (k.voters x, t) refl

  -- what a quorum has reached in the one it has in the other, with a value of the same part
  reached_there : (old new : ProgressState ID V P QS) → HasSameParts part has_quorum old new → (x : ID) (v : V)
      → IsReached cmp part has_quorum new x v → (w : V) × IsReached cmp part has_quorum old x w × (part v ≡ part w)
  reached_there old new k x v r =
      let voter : old.is_voter x ≡ true = sym (k.voters x) ∙ r.voter in
      let there = same_part part (new.value x) (old.value x) v (k.parts x voter) r.value in (
        there.0,
        record {
          voter = voter;
          value = there.1;
          quorum = sym (k.quorums (reached cmp part old (part there.0)))
              ∙ ap (has_quorum new.quorum_set) (sym (reached_alike old new k (part there.0)))
              ∙ ap (λ q. has_quorum new.quorum_set (reached cmp part new q)) (sym there.2) ∙ r.quorum;
        },
        there.2,
      )

  HasSameParts-sym : (old new : ProgressState ID V P QS) → HasSameParts part has_quorum old new → HasSameParts part has_quorum new old
  HasSameParts-sym old new k = record {
    quorums = λ set. sym (k.quorums set);
    voters = λ x. sym (k.voters x);
    default_part = sym k.default_part;
    parts = λ x t. sym (k.parts x (sym (k.voters x) ∙ t));
  }

  -- the counted value is the same
  pub counted_alike : (old new : ProgressState ID V P QS) → HasSameParts part has_quorum old new → (g : P)
      → IsCounted cmp part has_quorum old g → IsCounted cmp part has_quorum new g
  counted_alike old new k g c = record {
    is_one = elim c.is_one [
      | inl e ↦ inl (ap (λ d. cmp d g) k.default_part ∙ e)
      | inr w ↦ inr (
          let there = reached_there new old (HasSameParts-sym old new k) w.0 w.1 w.2 in
          (w.0, there.0, there.1, ap (λ p. cmp p g) (sym there.2) ∙ w.3)
          )
    ];
    default_at_most = ap (λ d. is_le (cmp d g)) k.default_part ∙ c.default_at_most;
    others_at_most = λ x v r. let there = reached_there old new k x v r in
        ap (λ p. is_le (cmp p g)) there.2 ∙ c.others_at_most x there.0 there.1;
  }

-- ---- entries

module _ {ID V P : Type 0} (part : V → P) where
  all_alike : (R : P → Type 0) (xs ys : List (ID × V)) → map (λ e. part e.1) xs ≡ map (λ e. part e.1) ys
      → AllByRecursion (λ f. R (part f.1)) xs → AllByRecursion (λ f. R (part f.1)) ys
  all_alike R [] [] e a = tt
  all_alike R [] (y ∷ ys) e a = cc
  all_alike R (x ∷ xs) [] e a = cc
  all_alike R (x ∷ xs) (y ∷ ys) e a =
      let here : part x.1 ≡ part y.1 = cc in
      let rest : map (λ f. part f.1) xs ≡ map (λ f. part f.1) ys = cc in
      (subst R here a.0, all_alike R xs ys rest a.1)

  falling_alike : (cmp : P → P → Ordering) (g : P) (xs ys : List (ID × V)) → map (λ e. part e.1) xs ≡ map (λ e. part e.1) ys
      → IsFalling cmp part g xs → IsFalling cmp part g ys
  falling_alike cmp g [] [] e a = tt
  falling_alike cmp g [] (y ∷ ys) e a = cc
  falling_alike cmp g (x ∷ xs) [] e a = cc
  falling_alike cmp g (x ∷ xs) (y ∷ ys) e a =
      let here : part x.1 ≡ part y.1 = cc in
      let rest : map (λ f. part f.1) xs ≡ map (λ f. part f.1) ys = cc in (
        subst (λ (q : P). AllByRecursion (λ f. is_lt (cmp g (part f.1)) ≡ true → AtMost cmp (part f.1) q) ys) here
            (all_alike (λ p. is_lt (cmp g p) ≡ true → AtMost cmp p (part x.1)) xs ys rest a.0),
        falling_alike cmp g xs ys rest a.1,
      )

  -- a voter's part
  value_parts : (eq : ID → ID → Bool) (x : ID) (n : ℕ) (xs ys : List (ID × V)) → keys_of xs ≡ keys_of ys
      → map (λ e. part e.1) (take n xs) ≡ map (λ e. part e.1) (take n ys) → is_member eq (take n (keys_of ys)) x ≡ true
      → option_map part (lookup (eq x) xs) ≡ option_map part (lookup (eq x) ys)
  value_parts eq x zero xs ys k e m = absurd (true≢false (sym m))
  value_parts eq x (suc n) [] [] k e m = absurd (true≢false (sym m))
  value_parts eq x (suc n) [] (b ∷ bs) k e m = cc
  value_parts eq x (suc n) (a ∷ as') [] k e m = cc
  value_parts eq x (suc n) (a ∷ as') (b ∷ bs) k e m =
      let key : a.0 ≡ b.0 = cc in
      let keys : keys_of as' ≡ keys_of bs = cc in
      let here : part a.1 ≡ part b.1 = cc in
      let rest : map (λ f. part f.1) (take n as') ≡ map (λ f. part f.1) (take n bs) = cc in
      ap (λ (i : ID). option_map part (cond (eq x i) (Some a.1) (lookup (eq x) as'))) key
      ∙ by here (eq x b.0) m (value_parts eq x n as' bs keys rest)
    where
      by : part a.1 ≡ part b.1 → (t : Bool) → (t || is_member eq (take n (keys_of bs)) x) ≡ true
          → (is_member eq (take n (keys_of bs)) x ≡ true → option_map part (lookup (eq x) as') ≡ option_map part (lookup (eq x) bs))
          → option_map part (cond t (Some a.1) (lookup (eq x) as')) ≡ option_map part (cond t (Some b.1) (lookup (eq x) bs))
      by here true i r = ap Some here
      by here false i r = r i

  -- a value written at an id keeps the parts of the first entries, if it has the same part or the
  -- id is in none of them
  pub written_parts : (eq : ID → ID → Bool) (id : ID) (v w : V) (n : ℕ) (xs : List (ID × V)) → lookup (eq id) xs ≡ Some v
      → (is_member eq (take n (keys_of xs)) id ≡ true → part w ≡ part v)
      → map (λ e. part e.1) (take n (set_value (eq id) xs w)) ≡ map (λ e. part e.1) (take n xs)
  written_parts eq id v w zero xs e same = refl
  written_parts eq id v w (suc n) [] e same = refl
  written_parts eq id v w (suc n) (x ∷ xs) e same = by (eq id x.0) e same (written_parts eq id v w n xs)
    where
      by : (b : Bool) → cond b (Some x.1) (lookup (eq id) xs) ≡ Some v
          → ((b || is_member eq (take n (keys_of xs)) id) ≡ true → part w ≡ part v)
          → (lookup (eq id) xs ≡ Some v → (is_member eq (take n (keys_of xs)) id ≡ true → part w ≡ part v)
          → map (λ f. part f.1) (take n (set_value (eq id) xs w)) ≡ map (λ f. part f.1) (take n xs))
          → map (λ f. part f.1) (take (suc n) (cond b ((x.0, w) ∷ xs) (x ∷ set_value (eq id) xs w)))
          ≡ part x.1 ∷ map (λ f. part f.1) (take n xs)
      by true i s r = let is : x.1 ≡ v = cc in ap (λ p. p ∷ map (λ f. part f.1) (take n xs)) (s refl ∙ ap part (sym is))
      by false i s r = ap (λ ps. part x.1 ∷ ps) (r i s)

module _ {ID V P QS : Type 0} (eq : ID → ID → Bool) (cmp : P → P → Ordering) (part : V → P) (has_quorum : QS → (ID → Bool) → Bool)
    (old new : ProgressView ID V P QS) (quorums : (set : ID → Bool) → has_quorum new.quorum_set set ≡ has_quorum old.quorum_set set)
    (voter_count : new.voter_count ≡ old.voter_count) (default_part : new.default_part ≡ old.default_part)
    (granted : new.granted ≡ old.granted) (ids : keys_of new.entries ≡ keys_of old.entries)
    (parts : map (λ e. part e.1) (take old.voter_count new.entries) ≡ map (λ e. part e.1) (take old.voter_count old.entries)) where
  voter_parts : (x : ID) → is_member eq (take old.voter_count (keys_of old.entries)) x ≡ true
      → option_map part (lookup (eq x) new.entries) ≡ option_map part (lookup (eq x) old.entries)
  voter_parts x m = value_parts part eq x old.voter_count new.entries old.entries ids parts m

  pub voters_alike : (x : ID) → (state eq new).is_voter x ≡ (state eq old).is_voter x
  voters_alike x = λ i. is_member eq (take (voter_count i) (ids i)) x

  -- in order before, in order now
  pub order_alike : IsInOrder eq cmp part has_quorum old → IsInOrder eq cmp part has_quorum new
  order_alike r = record {
    distinct = subst (IsDistinct eq) (sym ids) r.distinct;
    falling =
        subst (λ (n : ℕ). IsFalling cmp part new.granted (take n new.entries)) (sym voter_count)
        (subst (λ (g : P). IsFalling cmp part g (take old.voter_count new.entries)) (sym granted)
        (falling_alike part cmp old.granted (take old.voter_count old.entries) (take old.voter_count new.entries) (sym parts) r.falling));
    not_below = λ x v m h.
        let voter : is_member eq (take old.voter_count (keys_of old.entries)) x ≡ true = sym (voters_alike x) ∙ m in
        let there = same_part part (lookup (eq x) new.entries) (lookup (eq x) old.entries) v (voter_parts x voter) h in
        subst (λ (d : P). AtMost cmp d (part v)) (sym default_part)
        (subst (λ (q : P). AtMost cmp old.default_part q) (sym there.2) (r.not_below x there.0 voter there.1));
    counted =
        subst (IsCounted cmp part has_quorum (state eq new)) (sym granted)
        (counted_alike cmp part has_quorum (state eq old) (state eq new) record
        { quorums = quorums; voters = voters_alike; default_part = default_part; parts = voter_parts } old.granted r.counted);
  }
