-- What is granted is the match of some voter: so a leader's granted log id is in its log if each match is.
use Rattle.std.specs.Prelude.{◌≡◌, ◌⊎◌, ◌+◌, ◌<◌, ◌≤◌, Bool, true, false, cond, List, [], ◌∷◌, ◌++◌, length, count_by, ◌&&◌, Option, Some, None}
use Rattle.std.specs.Cmp.{IsEquivalence, IsTotalOrder, first_so, second_so}
use Rattle.std.specs.Cmp.Derive.{both_true}
use Rattle.std.specs.Set.{is_member, unique_keys}
use Rattle.std.specs.declared.cmp.Ordering.{Ordering}
use Rattle.std.proofs.Common.{refl, sym, ap, subst, ◌∙◌, inl, inr, arith, true≢false}
use Rattle.std.proofs.lemmas.Bool.{false≢true, or_cases}
use Rattle.std.proofs.lemmas.Bool.Decides.{nat_tests}
use Rattle.std.proofs.lemmas.List.Sums.{sum_by-cons}
use Rattle.raft_base.specs.LogId.{id_le}
use Rattle.raft_base.specs.declared.log_id.LogIdOf.{LogIdOf}
use Rattle.raft_members.proofs.CallerLemmas.{joint_majority_member, joint_majority_of_voters}
use Rattle.raft_members.specs.quorum.Majority.{is_joint_majority, is_majority, is_voter_of}
use Rattle.safety_laws.specs.Ranks.{IsAmong}

-- log ids that may be absent, in order
pub record IsOrder {X : Type 0} (le : Option X → Option X → Bool) : Type 0 where
  pub itself : (a : Option X) → le a a ≡ true
  pub total : (a b : Option X) → le a b ≡ false → le b a ≡ true
  pub trans : (a b c : Option X) → le a b ≡ true → le b c ≡ true → le a c ≡ true
  pub same : (a b : Option X) → le a b ≡ true → le b a ≡ true → a ≡ b
  pub least : (x : X) → le (Some x) None ≡ true → ⊥

-- quorums among some voters: a quorum has one of them, and stays one if it loses none of them
record AreQuorums {K : Type 0} (voters : List K) (quorum : (K → Bool) → Bool) : Type 0 where
  one : (s : K → Bool) → quorum s ≡ true → (v : K) × IsAmong v voters × (s v ≡ true)
  grows : (s t : K → Bool) → ((v : K) → IsAmong v voters → s v ≡ true → t v ≡ true) → quorum s ≡ true → quorum t ≡ true

module _ {X K : Type 0} (le : Option X → Option X → Bool) (order : IsOrder le) (matching : K → Option X) (g : X) where
  -- a voter that matches the log id, and no other one that does so matches less
  record Least (vs : List K) : Type 0 where
    v : K
    among : IsAmong v vs
    has : le (Some g) (matching v) ≡ true
    least : (u : K) → IsAmong u vs → le (Some g) (matching u) ≡ true → le (matching v) (matching u) ≡ true

  abbrev NoneHas : List K → Type 0
  NoneHas vs = (u : K) → IsAmong u vs → le (Some g) (matching u) ≡ true → ⊥

  least_of : (vs : List K) → NoneHas vs ⊎ Least vs
  least_of [] = inl (λ u among h. absurd among)
  least_of (x ∷ xs) = by (le (Some g) (matching x)) refl (least_of xs)
    where
      same_le : (u : K) → u ≡ x → le (Some g) (matching u) ≡ le (Some g) (matching x)
      same_le u e = ap (λ (k : K). le (Some g) (matching k)) e

      by : (b : Bool) → le (Some g) (matching x) ≡ b → NoneHas xs ⊎ Least xs → NoneHas (x ∷ xs) ⊎ Least (x ∷ xs)
      by false e (inl none) = inl no
        where
          no : (u : K) → IsAmong u (x ∷ xs) → le (Some g) (matching u) ≡ true → ⊥
          no u (inl same) h = true≢false (sym h ∙ same_le u same ∙ e)
          no u (inr among) h = none u among h
      by false e (inr l) = inr (record { v = l.v; among = inr l.among; has = l.has; least = low })
        where
          low : (u : K) → IsAmong u (x ∷ xs) → le (Some g) (matching u) ≡ true → le (matching l.v) (matching u) ≡ true
          low u (inl same) h = absurd (true≢false (sym h ∙ same_le u same ∙ e))
          low u (inr among) h = l.least u among h
      by true e (inl none) = inr (record { v = x; among = inl refl; has = e; least = low })
        where
          low : (u : K) → IsAmong u (x ∷ xs) → le (Some g) (matching u) ≡ true → le (matching x) (matching u) ≡ true
          low u (inl same) h = subst (λ (k : K). le (matching x) (matching k) ≡ true) (sym same) (order.itself (matching x))
          low u (inr among) h = absurd (none u among h)
      by true e (inr l) = pick (le (matching x) (matching l.v)) refl
        where
          pick : (b : Bool) → le (matching x) (matching l.v) ≡ b → NoneHas (x ∷ xs) ⊎ Least (x ∷ xs)
          pick true f = inr (record { v = x; among = inl refl; has = e; least = low })
            where
              low : (u : K) → IsAmong u (x ∷ xs) → le (Some g) (matching u) ≡ true → le (matching x) (matching u) ≡ true
              low u (inl same) h = subst (λ (k : K). le (matching x) (matching k) ≡ true) (sym same) (order.itself (matching x))
              low u (inr among) h = order.trans (matching x) (matching l.v) (matching u) f (l.least u among h)
          pick false f = inr (record { v = l.v; among = inr l.among; has = l.has; least = low })
            where
              low : (u : K) → IsAmong u (x ∷ xs) → le (Some g) (matching u) ≡ true → le (matching l.v) (matching u) ≡ true
              low u (inl same) h =
                  subst (λ (k : K). le (matching l.v) (matching k) ≡ true) (sym same) (order.total (matching x) (matching l.v) f)
              low u (inr among) h = l.least u among h

greatest_is_match : {X K : Type 0} → (le : Option X → Option X → Bool) → IsOrder le → (voters : List K) (quorum : (K → Bool) → Bool)
    → AreQuorums voters quorum
    → (matching : K → Option X) (granted : X) → quorum (λ v. le (Some granted) (matching v)) ≡ true
    → ((x : X) → quorum (λ v. le (Some x) (matching v)) ≡ true → le (Some x) (Some granted) ≡ true)
    → (v : K) × (matching v ≡ Some granted)
greatest_is_match {X} {K} le order voters quorum quorums matching g has greatest = go (least_of le order matching g voters)
  where
    some : (v : K) × IsAmong v voters × (le (Some g) (matching v) ≡ true)
    some = quorums.one (λ v. le (Some g) (matching v)) has

    go : NoneHas le order matching g voters ⊎ Least le order matching g voters → (v : K) × (matching v ≡ Some g)
    go (inl none) = absurd (none some.0 some.1 some.2)
    go (inr l) = at (matching l.v) refl
      where
        at : (o : Option X) → matching l.v ≡ o → (v : K) × (matching v ≡ Some g)
        at None e =
            let h : le (Some g) None ≡ true = ap (λ (o : Option X). le (Some g) o) (sym e) ∙ l.has in
            absurd (order.least g h)
        at (Some y) e =
            let high : le (Some g) (Some y) ≡ true = ap (λ (o : Option X). le (Some g) o) (sym e) ∙ l.has in
            let low = greatest y (quorums.grows (λ v. le (Some g) (matching v)) (λ v. le (Some y) (matching v))
            (λ u among h. ap (λ (o : Option X). le o (matching u)) (sym e) ∙ l.least u among h) has) in
            (l.v, e ∙ order.same (Some y) (Some g) low high)

-- ---- quorums of a membership

abbrev all_of : {K : Type 0} → List (List K) → List K
all_of [] = []
all_of (c ∷ cs) = c ++ all_of cs

module _ {K : Type 0} {eq : K → K → Bool} (laws : IsEquivalence eq) (exact : (x y : K) → eq x y ≡ true → x ≡ y) where
  member_among : (c : List K) (x : K) → is_member eq c x ≡ true → IsAmong x c
  member_among [] x h = absurd (false≢true h)
  member_among (y ∷ ys) x h = by (or_cases (eq x y) (is_member eq ys x) h) (member_among ys x)
    where
      by : (eq x y ≡ true) ⊎ (is_member eq ys x ≡ true) → (is_member eq ys x ≡ true → IsAmong x ys) → IsAmong x (y ∷ ys)
      by (inl e) rest = inl (exact x y e)
      by (inr m) rest = inr (rest m)

  among_left : (x : K) (xs ys : List K) → IsAmong x xs → IsAmong x (xs ++ ys)
  among_left x [] ys none = absurd none
  among_left x (y ∷ xs) ys (inl e) = inl e
  among_left x (y ∷ xs) ys (inr a) = inr (among_left x xs ys a)

  among_right : (x : K) (xs ys : List K) → IsAmong x ys → IsAmong x (xs ++ ys)
  among_right x [] ys a = a
  among_right x (y ∷ xs) ys a = inr (among_right x xs ys a)

  voter_among : (cs : List (List K)) (x : K) → is_voter_of eq cs x ≡ true → IsAmong x (all_of cs)
  voter_among [] x h = absurd (false≢true h)
  voter_among (c ∷ cs) x h = by (or_cases (is_member eq c x) (is_voter_of eq cs x) h) (voter_among cs x)
    where
      by : (is_member eq c x ≡ true) ⊎ (is_voter_of eq cs x ≡ true) → (is_voter_of eq cs x ≡ true → IsAmong x (all_of cs))
          → IsAmong x (c ++ all_of cs)
      by (inl m) rest = among_left x c (all_of cs) (member_among c x m)
      by (inr v) rest = among_right x c (all_of cs) (rest v)

  count_more : (s t : K → Bool) (xs : List K) → ((x : K) → s x ≡ true → t x ≡ true) → count_by s xs ≤ count_by t xs
  count_more s t [] more = omega arith
  count_more s t (x ∷ xs) more =
      rw (sum_by-cons (λ y. cond (s y) 1 0) x xs, sum_by-cons (λ y. cond (t y) 1 0) x xs)
      (by (s x) refl (t x) refl (count_more s t xs more))
    where
      by : (a : Bool) → s x ≡ a → (b : Bool) → t x ≡ b → count_by s xs ≤ count_by t xs
          → cond a 1 0 + count_by s xs ≤ cond b 1 0 + count_by t xs
      by true e true f le = omega (arith, le)
      by true e false f le = absurd (false≢true (sym f ∙ more x e))
      by false e true f le = omega (arith, le)
      by false e false f le = omega (arith, le)

  majority_more : (s t : K → Bool) (cs : List (List K)) → ((x : K) → s x ≡ true → t x ≡ true) → is_joint_majority eq cs s ≡ true
      → is_joint_majority eq cs t ≡ true
  majority_more s t [] more h = refl
  majority_more s t (c ∷ cs) more h =
      both_true (one (count_more s t (unique_keys eq c) more) (first_so (is_majority eq c s) (is_joint_majority eq cs s) h))
      (majority_more s t cs more (second_so (is_majority eq c s) (is_joint_majority eq cs s) h))
    where
      one : count_by s (unique_keys eq c) ≤ count_by t (unique_keys eq c) → is_majority eq c s ≡ true → is_majority eq c t ≡ true
      one le m = grind (arith, nat_tests)

  are_quorums : (cs : List (List K)) → 0 < length cs → AreQuorums (all_of cs) (is_joint_majority eq cs)
  are_quorums cs some = record {
    one = λ s h. (let x = joint_majority_member laws cs (λ v. is_voter_of eq cs v && s v) some
        (joint_majority_of_voters laws (λ v. is_voter_of eq cs v) s cs (λ v is. is) h) in
        (x.0, voter_among cs x.0 (first_so (is_voter_of eq cs x.0) (s x.0) x.1), second_so (is_voter_of eq cs x.0) (s x.0) x.1));
    grows = λ s t more h.
        majority_more (λ v. is_voter_of eq cs v && s v) t cs
        (λ v is. more v (voter_among cs v (first_so (is_voter_of eq cs v) (s v) is)) (second_so (is_voter_of eq cs v) (s v) is))
        (joint_majority_of_voters laws (λ v. is_voter_of eq cs v) s cs (λ v is. is) h);
  }

-- the greatest log id that a quorum of a membership matches is the match of a member
pub granted_is_match : {K C : Type 0} {eq : K → K → Bool} {cmp : C → C → Ordering} → IsEquivalence eq
    → ((x y : K) → eq x y ≡ true → x ≡ y) → IsTotalOrder cmp → IsOrder (id_le cmp) → (cs : List (List K)) → 0 < length cs
    → (matching : K → Option (LogIdOf C)) (granted : LogIdOf C)
    → is_joint_majority eq cs (λ v. id_le cmp (Some granted) (matching v)) ≡ true
    → ((x : LogIdOf C) → is_joint_majority eq cs (λ v. id_le cmp (Some x) (matching v)) ≡ true
    → id_le cmp (Some x) (Some granted) ≡ true)
    → (v : K) × (matching v ≡ Some granted)
granted_is_match {eq = eq} {cmp = cmp} laws exact total order cs some matching granted has greatest =
    greatest_is_match (id_le cmp) order (all_of cs) (is_joint_majority eq cs) (are_quorums laws exact cs some) matching granted has greatest
