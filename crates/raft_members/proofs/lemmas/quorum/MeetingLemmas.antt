-- Quorums that meet share a voter.
use Rattle.std.proofs.lemmas.Bool.{or_left, or_right}
use Rattle.std.specs.Prelude.{◌≡◌, ℕ, ◌+◌, ◌*◌, ◌<◌, ◌≤◌, Bool, true, false, ◌&&◌, ◌||◌, cond, List, [], ◌∷◌, length, nat_lt, count_by, refl}
use Rattle.std.proofs.Common.{sym, ◌∙◌, arith, ltb-true}
use Rattle.std.specs.Cmp.{IsEquivalence, first_so, second_so}
use Rattle.std.specs.List.{filter}
use Rattle.std.specs.Set.{is_member, unique_keys}
use Rattle.std.specs.Cmp.Lexicographic.{pointwise, as_long}
use Rattle.std.proofs.lemmas.Map.Made.{distinct_count-le}
use Rattle.std.proofs.lemmas.List.Sums.{length-filter}
use Rattle.raft_members.specs.quorum.Majority.{is_majority, is_joint_majority, is_voter_of}
use Rattle.raft_members.specs.quorum.Coherence.{has_config, is_coherent}
use Rattle.raft_members.specs.quorum.Meeting.{ShareMember, MajorityHasVoter, QuorumsMeet, CoherentQuorumsMeet, EqualConfigsHaveSameQuorums}
use Rattle.raft_members.proofs.lemmas.quorum.MajorityLemmas.{is_member-alike, is_member-unique_keys}
use Rattle.raft_members.proofs.lemmas.quorum.NextLemmas.{equal_right}

share : (n a b m : ℕ) → n < 2 * a → n < 2 * b → m ≤ n → m < a + b
share n a b m h k l = omega arith

module _ {K : Type 0} {e : K → K → Bool} (laws : IsEquivalence e) where
  -- ---- two majorities of one config

  later : (x : K) (xs : List K) (s t : K → Bool) → ShareMember e xs s t → ShareMember e (x ∷ xs) s t
  later x xs s t m = (m.0, or_right _ _ m.1, m.2, m.3)

  share_step : (s t : K → Bool) (x : K) (xs : List K) (a b : Bool) → s x ≡ a → t x ≡ b
      → (length xs < length (filter s xs) + length (filter t xs) → ShareMember e xs s t)
      → length xs + 1 < length (cond a (x ∷ filter s xs) (filter s xs)) + length (cond b (x ∷ filter t xs) (filter t xs))
      → ShareMember e (x ∷ xs) s t
  share_step s t x xs true true ea eb next h = (x, or_left _ _ (laws.refl x), ea, eb)
  share_step s t x xs true false ea eb next h = later x xs s t (next (omega arith))
  share_step s t x xs false true ea eb next h = later x xs s t (next (omega arith))
  share_step s t x xs false false ea eb next h = later x xs s t (next (omega arith))

  -- two sets that have more items of a list than it has share one
  pub shared : (s t : K → Bool) (c : List K) → length c < length (filter s c) + length (filter t c) → ShareMember e c s t
  shared s t [] h = absurd (omega arith)
  shared s t (x ∷ xs) h = share_step s t x xs (s x) (t x) refl refl (shared s t xs) (omega arith)

  -- two majorities of one config share a voter
  pub majorities_meet : (c : List K) (s t : K → Bool) → is_majority e c s ≡ true → is_majority e c t ≡ true → ShareMember e c s t
  majorities_meet c s t h k =
      let u = unique_keys e c in
      let a : length c < 2 * length (filter s u) = rw length-filter (ltb-true (length c) (2 * count_by s u) h) in
      let b : length c < 2 * length (filter t u) = rw length-filter (ltb-true (length c) (2 * count_by t u) k) in
      let m : ShareMember e u s t = shared s t u
      (share (length c) (length (filter s u)) (length (filter t u)) (length u) a b (distinct_count-le e c)) in
      (m.0, sym (is_member-unique_keys laws c m.0) ∙ m.1, m.2, m.3)

  -- a majority has a voter of its config
  pub majority_member : MajorityHasVoter e
  majority_member c s h = let m = majorities_meet c s s h h in (m.0, m.1, m.2)

  -- ---- a config that equals another

  pub same_members : (c d : List K) (q : K) → pointwise e c d ≡ true → is_member e c q ≡ is_member e d q
  same_members [] [] q h = refl
  same_members [] (y ∷ ys) q h = cc
  same_members (x ∷ xs) [] q h = cc
  same_members (x ∷ xs) (y ∷ ys) q h = λ i. equal_right laws q x y (first_so _ _ h) i || same_members xs ys q (second_so _ _ h) i

  module _ (s : K → Bool) (r : (x y : K) → e x y ≡ true → s x ≡ s y) where
    add : (b d : Bool) (x y : K) (f g : List K) → b ≡ d → length f ≡ length g → length (cond b (x ∷ f) f) ≡ length (cond d (y ∷ g) g)
    add true true x y f g h l = omega arith
    add false false x y f g h l = l
    add true false x y f g h l = cc
    add false true x y f g h l = cc

    count_step : (x y : K) (b d : Bool) (f g : List K) → b ≡ d → s x ≡ s y → length (filter s f) ≡ length (filter s g)
        → length (filter s (cond b f (x ∷ f))) ≡ length (filter s (cond d g (y ∷ g)))
    count_step x y true true f g h k l = l
    count_step x y false false f g h k l = add (s x) (s y) x y (filter s f) (filter s g) k l
    count_step x y true false f g h k l = cc
    count_step x y false true f g h k l = cc

    same_count : (c d : List K) → pointwise e c d ≡ true → length (filter s (unique_keys e c)) ≡ length (filter s (unique_keys e d))
    same_count [] [] h = refl
    same_count [] (y ∷ ys) h = cc
    same_count (x ∷ xs) [] h = cc
    same_count (x ∷ xs) (y ∷ ys) h = count_step x y (is_member e xs x) (is_member e ys y) (unique_keys e xs) (unique_keys e ys)
        (same_members xs ys x (second_so _ _ h) ∙ is_member-alike laws x y (first_so _ _ h) ys) (r x y (first_so _ _ h))
        (same_count xs ys (second_so _ _ h))

    -- a config that equals another has its majorities
    pub same_majority : (c d : List K) → pointwise e c d ≡ true → is_majority e c s ≡ is_majority e d s
    same_majority c d h = λ i. nat_lt (as_long e c d h i)
        (2 * (sym (length-filter s (unique_keys e c)) ∙ same_count c d h ∙ length-filter s (unique_keys e d)) i)

    each_step : (c : List K) (cs : List (List K)) (d : List K) (b : Bool) → pointwise e c d ≡ b
        → (is_joint_majority e cs s ≡ true → has_config e cs d ≡ true → is_majority e d s ≡ true)
        → (is_majority e c s && is_joint_majority e cs s) ≡ true → (b || has_config e cs d) ≡ true → is_majority e d s ≡ true
    each_step c cs d true p next h k = sym (same_majority c d p) ∙ first_so _ _ h
    each_step c cs d false p next h k = next (second_so _ _ h) k

    -- a quorum has a majority of each config that equals one of its own
    pub each_majority : (cs : List (List K)) (d : List K) → is_joint_majority e cs s ≡ true → has_config e cs d ≡ true
        → is_majority e d s ≡ true
    each_majority [] d h k = cc
    each_majority (c ∷ cs) d h k = each_step c cs d (pointwise e c d) refl (each_majority cs d) h k

  -- ---- coherent configs

  voter_step : (c : List K) (cs : List (List K)) (d : List K) (k : K) (b : Bool) → pointwise e c d ≡ b
      → (has_config e cs d ≡ true → is_voter_of e cs k ≡ true) → (b || has_config e cs d) ≡ true → is_member e d k ≡ true
      → (is_member e c k || is_voter_of e cs k) ≡ true
  voter_step c cs d k true p next h m = or_left _ _ (same_members c d k p ∙ m)
  voter_step c cs d k false p next h m = or_right _ _ (next h)

  -- a member of a config that equals one of cs is a voter
  pub voter_there : (cs : List (List K)) (d : List K) (k : K) → has_config e cs d ≡ true → is_member e d k ≡ true
      → is_voter_of e cs k ≡ true
  voter_there [] d k h m = cc
  voter_there (c ∷ cs) d k h m = voter_step c cs d k (pointwise e c d) refl (λ h'. voter_there cs d k h' m) h m

  -- a config that equals one of cs, with a majority in t, and whose members are voters of ds
  abbrev pub SharedMajority : List (List K) → List (List K) → (K → Bool) → Type 0
  SharedMajority cs ds t = (d : List K) × (has_config e cs d ≡ true) × (is_majority e d t ≡ true)
      × ((q : K) → is_member e d q ≡ true → is_voter_of e ds q ≡ true)

  shared_step : (cs : List (List K)) (d : List K) (ds : List (List K)) (t : K → Bool) (b : Bool) → has_config e cs d ≡ b
      → (is_coherent e cs ds ≡ true → is_joint_majority e ds t ≡ true → SharedMajority cs ds t) → (b || is_coherent e cs ds) ≡ true
      → (is_majority e d t && is_joint_majority e ds t) ≡ true → SharedMajority cs (d ∷ ds) t
  shared_step cs d ds t true p next h q = (d, p, first_so _ _ q, λ x m. or_left _ _ m)
  shared_step cs d ds t false p next h q = let n = next h (second_so _ _ q) in (n.0, n.1, n.2, λ x m. or_right _ _ (n.3 x m))

  -- a quorum of coherent configs has a majority of a shared one
  pub shared_majority : (cs ds : List (List K)) (t : K → Bool) → is_coherent e cs ds ≡ true → is_joint_majority e ds t ≡ true
      → SharedMajority cs ds t
  shared_majority cs [] t h q = cc
  shared_majority cs (d ∷ ds) t h q = shared_step cs d ds t (has_config e cs d) refl (shared_majority cs ds t) h q

  -- quorums of coherent configs share a voter of both; s contains both or neither of equal ids
  pub coherent_meet : CoherentQuorumsMeet e
  coherent_meet cs ds s t r co hs ht =
      let d = shared_majority cs ds t co ht in
      let m = majorities_meet d.0 s t (each_majority s r cs d.0 hs d.1) d.2 in
      (m.0, voter_there cs d.0 m.0 d.1 m.1, d.3 m.0 m.1, m.2, m.3)

  -- ---- equal lists of configs

  equal_voters : (cs ds : List (List K)) → pointwise (pointwise e) cs ds ≡ true → (q : K) → is_voter_of e ds q ≡ is_voter_of e cs q
  equal_voters [] [] h q = refl
  equal_voters [] (d ∷ ds) h q = cc
  equal_voters (c ∷ cs) [] h q = cc
  equal_voters (c ∷ cs) (d ∷ ds) h q = λ i. sym (same_members c d q (first_so _ _ h)) i || equal_voters cs ds (second_so _ _ h) q i

  equal_quorums : (s : K → Bool) (r : (x y : K) → e x y ≡ true → s x ≡ s y) (cs ds : List (List K)) → pointwise (pointwise e) cs ds ≡ true
      → is_joint_majority e ds s ≡ is_joint_majority e cs s
  equal_quorums s r [] [] h = refl
  equal_quorums s r [] (d ∷ ds) h = cc
  equal_quorums s r (c ∷ cs) [] h = cc
  equal_quorums s r (c ∷ cs) (d ∷ ds) h = λ i. sym (same_majority s r c d (first_so _ _ h)) i && equal_quorums s r cs ds (second_so _ _ h) i

  pub equal_configs : EqualConfigsHaveSameQuorums e
  equal_configs cs ds h = record { voters = equal_voters cs ds h; quorums = λ set r. equal_quorums set r cs ds h }

  -- two quorums of one list of configs share a voter, one of its first config
  pub quorums_meet : QuorumsMeet e
  quorums_meet [] s t n hs ht = absurd (omega arith)
  quorums_meet (c ∷ cs) s t n hs ht =
      let m = majorities_meet c s t (first_so _ _ hs) (first_so _ _ ht) in
      (m.0, or_left _ _ m.1, m.2, m.3)
