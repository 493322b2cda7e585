-- The leader ids of a kind are ranked: what the traits promise is what the rules need.
use Rattle.std.specs.Prelude.{◌≡◌, ◌⊎◌, ◌+◌, ◌<◌, ◌≤◌, ℕ, true, List, [], ◌∷◌, map, Some, None}
use Rattle.std.specs.Cmp.{IsEquivalence, IsPartialOrder, IsTotalOrder}
use Rattle.std.specs.Option.{option_map}
use Rattle.std.specs.Ordering.{is_eq, is_le, is_lt, nat_cmp, ordering_reverse, partial_le}
use Rattle.std.specs.declared.cmp.Ordering.{Ordering}
use Rattle.std.specs.declared.cmp.Ordering.TheVariants.{Less, Equal, Greater}
use Rattle.std.proofs.Common.{refl, sym, ap, ◌∙◌, inl, inr, arith}
use Rattle.std.proofs.lemmas.Bool.{cases_lt, false≢true}
use Rattle.std.proofs.lemmas.Bool.Decides.{nat_tests}
use Rattle.steps_handlers.specs.Compared.{LeaderMembers}
use Rattle.raft_progress.specs.progress.Comparisons.{OrdMembers}
use Rattle.safety_laws.specs.Ranks.{IsAmong, RanksAs, rank_in}
use Rattle.safety_laws.proofs.lemmas.RankLemmas.{ranked}
use Rattle.steps_safety.specs.Running.{Cluster, IsCluster, NodesAreACluster}
use Rattle.steps_safety.specs.Server.{AreRanked}

-- what the traits promise of ids and of leader ids
pub record Laws {K L C : Type 0} (ids : OrdMembers K) (kind : LeaderMembers L K C) (logs : OrdMembers C) : Type 0 where
  pub ids_equal : IsEquivalence ids.eq
  pub logs_equal : IsEquivalence logs.eq
  pub total : IsTotalOrder logs.cmp
  pub ties : (x y : C) → logs.eq x y ≡ is_eq (logs.cmp x y)
  pub partial : IsPartialOrder kind.eq kind.order
  pub by_term : (a b : L) → (kind.term_of a ≡ kind.term_of b → ⊥)
      → kind.order a b ≡ Some (nat_cmp (kind.term_of a) (kind.term_of b))
  pub rises : (a b : L) → partial_le kind.order a b ≡ true → is_le (logs.cmp (kind.committed a) (kind.committed b)) ≡ true
  pub lesser : (a b : L) (m n : K) → kind.voted a ≡ Some m → kind.voted b ≡ Some n → kind.order a b ≡ Some Less
      → logs.cmp (kind.committed a) (kind.committed b) ≡ Less
  pub one_committed : (a b : L) → kind.order a b ≡ None → logs.eq (kind.committed a) (kind.committed b) ≡ true
  pub made : (t : ℕ) (n : K) → (kind.term_of (kind.leader_of t n) ≡ t) × (kind.voted (kind.leader_of t n) ≡ Some n)
      × (kind.committed_of t n ≡ kind.committed (kind.leader_of t n))

-- ids that are `==` are equal
pub record AreExact {K L C : Type 0} (ids : OrdMembers K) (kind : LeaderMembers L K C) (logs : OrdMembers C) : Type 0 where
  pub nodes : (x y : K) → ids.eq x y ≡ true → x ≡ y
  pub leaders : (x y : L) → kind.eq x y ≡ true → x ≡ y
  pub committed : (x y : C) → logs.eq x y ≡ true → x ≡ y

-- the least of two numbers that is less
less_is : (m n : ℕ) → m < n → nat_cmp m n ≡ Less
less_is m n lt = by (nat_cmp m n) refl
  where
    by : (o : Ordering) → nat_cmp m n ≡ o → nat_cmp m n ≡ Less
    by Less e = e
    by Equal e = absurd (grind (arith, nat_tests))
    by Greater e = absurd (grind (arith, nat_tests))

among_map : {X Y : Type 0} (f : X → Y) (x : X) (xs : List X) → IsAmong x xs → IsAmong (f x) (map f xs)
among_map f x [] none = none
among_map f x (y ∷ ys) (inl e) = inl (ap f e)
among_map f x (y ∷ ys) (inr a) = inr (among_map f x ys a)

pub from_map : {X Y : Type 0} (f : X → Y) (y : Y) (xs : List X) → IsAmong y (map f xs) → (x : X) × IsAmong x xs × (y ≡ f x)
from_map f y [] none = absurd none
from_map f y (x ∷ xs) (inl e) = (x, inl refl, e)
from_map f y (x ∷ xs) (inr a) = let r = from_map f y xs a in (r.0, inr r.1, r.2)

-- leader ids that do not compare are of one term
pub one_term : {K L C : Type 0} {ids : OrdMembers K} {kind : LeaderMembers L K C} {logs : OrdMembers C} → Laws ids kind logs
    → (a b : L) → kind.order a b ≡ None → kind.term_of a ≡ kind.term_of b
one_term {K} {L} {C} {ids} {kind} laws a b apart =
    by (cases_lt (kind.term_of a) (kind.term_of b)) (cases_lt (kind.term_of b) (kind.term_of a))
  where
    none_there : (o : Ordering) → None ≡ Some o → ⊥
    none_there o e = cc

    differ : (kind.term_of a ≡ kind.term_of b → ⊥) → ⊥
    differ other = none_there _ (sym apart ∙ laws.by_term a b other)

    by : (kind.term_of a < kind.term_of b) ⊎ (kind.term_of b ≤ kind.term_of a)
        → (kind.term_of b < kind.term_of a) ⊎ (kind.term_of a ≤ kind.term_of b) → kind.term_of a ≡ kind.term_of b
    by (inl lt) o = absurd (differ (λ same. omega (arith, lt, same)))
    by (inr le) (inl lt) = absurd (differ (λ same. omega (arith, lt, same)))
    by (inr le) (inr ge) = omega (arith, le, ge)

module _ {K L C : Type 0} {ids : OrdMembers K} {kind : LeaderMembers L K C} {logs : OrdMembers C} (laws : Laws ids kind logs)
    (exact : AreExact ids kind logs) (c : Cluster K L) (is : IsCluster kind c) where
  abbrev pub used : List L
  used = c.start ∷ c.leaders

  abbrev pub terms : List C
  terms = map kind.committed (c.start ∷ c.leaders)

  pub cmp_one : (x y : C) → logs.cmp x y ≡ Equal → x ≡ y
  cmp_one x y e = exact.committed x y (laws.ties x y ∙ ap is_eq e)

  pub ranks : RanksAs logs.cmp terms
  ranks = ranked laws.total cmp_one terms

  cmp_itself : (x : C) → logs.cmp x x ≡ Equal
  cmp_itself x = by (logs.cmp x x) refl (sym (laws.ties x x) ∙ laws.logs_equal.refl x)
    where
      by : (o : Ordering) → logs.cmp x x ≡ o → is_eq (logs.cmp x x) ≡ true → logs.cmp x x ≡ Equal
      by Equal e h = e
      by Less e h = absurd (false≢true (rw e at h))
      by Greater e h = absurd (false≢true (rw e at h))

  -- the leader id of a server that has not voted is before each of a campaign
  before : (a : L) → IsAmong a c.leaders → kind.order c.start a ≡ Some Less
  before a among =
      let zero_term = is.start_term in
      let past = is.later a among in
      let later : kind.term_of c.start < kind.term_of a = omega (arith, zero_term, past) in
      laws.by_term c.start a (λ same. omega (arith, same, later))
      ∙ ap (λ (o : Ordering). Some o) (less_is (kind.term_of c.start) (kind.term_of a) later)

  -- the leader of a campaign has a greater committed leader id than the leader id of a server that has not
  -- voted
  pub past_start : (a : L) → IsAmong a c.leaders → logs.cmp (kind.committed c.start) (kind.committed a) ≡ Less
  past_start a among = by (logs.cmp (kind.committed c.start) (kind.committed a)) refl (laws.rises c.start a (rw (before a among) refl))
    where
      by : (o : Ordering) → logs.cmp (kind.committed c.start) (kind.committed a) ≡ o
          → is_le (logs.cmp (kind.committed c.start) (kind.committed a)) ≡ true
          → logs.cmp (kind.committed c.start) (kind.committed a) ≡ Less
      by Less e h = e
      by Equal e h = absurd (is.not_start a among (sym (cmp_one (kind.committed c.start) (kind.committed a) e)))
      by Greater e h = absurd (false≢true (rw e at h))

  turned : (a b : L) → kind.order a b ≡ Some Greater → kind.order b a ≡ Some Less
  turned a b h = laws.partial.antisymm b a ∙ ap (option_map ordering_reverse) h

  less_first : (t u : C) → IsAmong t terms → logs.cmp t u ≡ Less → rank_in logs.cmp terms t < rank_in logs.cmp terms u
  less_first t u among h = ranks.strictly t u among (ap is_lt h)

  greater : (a b : L) → IsAmong a used → IsAmong b used → kind.order a b ≡ Some Greater
      → rank_in logs.cmp terms (kind.committed b) < rank_in logs.cmp terms (kind.committed a)
  greater a b (inr x) (inr y) h =
      let m = is.node a x in
      let n = is.node b y in
      less_first (kind.committed b) (kind.committed a) (among_map kind.committed b used (inr y))
      (laws.lesser b a n.0 m.0 n.1 m.1 (turned a b h))
  greater a b (inr x) (inl e) h =
      less_first (kind.committed b) (kind.committed a) (inl (ap kind.committed e))
      (ap (λ (l : L). logs.cmp (kind.committed l) (kind.committed a)) e ∙ past_start a x)
  greater a b (inl e) (inr y) h =
      let low : Some Less ≡ Some Greater = sym (before b y) ∙ ap (λ (l : L). kind.order l b) (sym e) ∙ h in cc
  greater a b (inl e) (inl f) h =
      let back = turned a b h in
      let same : kind.order a b ≡ kind.order b a =
      ap (λ (l : L). kind.order l b) (e ∙ sym f) ∙ ap (λ (l : L). kind.order b l) (f ∙ sym e) in
      let low : Some Greater ≡ Some Less = sym h ∙ same ∙ back in
      cc

  least : (x : C) → IsAmong x terms → logs.cmp x (kind.committed c.start) ≡ Less → ⊥
  least x among h = by (from_map kind.committed x used among)
    where
      not_both : Less ≡ Greater → ⊥
      not_both e = cc

      not_equal : Equal ≡ Less → ⊥
      not_equal e = cc

      by : ((l : L) × IsAmong l used × (x ≡ kind.committed l)) → ⊥
      by (l, inl e, at) =
          not_equal (sym (cmp_itself (kind.committed c.start))
          ∙ ap (λ (t : C). logs.cmp t (kind.committed c.start)) (sym (at ∙ ap kind.committed e)) ∙ h)
      by (l, inr a, at) =
          not_both (sym h ∙ laws.total.antisymm x (kind.committed c.start)
          ∙ ap ordering_reverse (ap (λ (t : C). logs.cmp (kind.committed c.start) t) at ∙ past_start l a))

  pub are_ranked : AreRanked (record {
    order = kind.order;
    term_of = kind.term_of;
    voted = kind.voted;
    committed = kind.committed;
    cmp = logs.cmp;
    eq = logs.eq;
  }) (rank_in logs.cmp terms) used terms (kind.committed c.start)
  are_ranked = record {
    greater = greater;
    equal = λ a b h. exact.leaders a b ((laws.partial.matches_eq a b).1 h);
    apart = λ a b x y h.
        ap (rank_in logs.cmp terms)
        (sym (exact.committed (kind.committed a) (kind.committed b) (laws.one_committed a b h)));
    less = λ x y in_x in_y h. less_first x y in_x h;
    one = cmp_one;
    flip = λ x y h. laws.total.antisymm y x ∙ ap ordering_reverse h;
    same = exact.committed;
    itself = laws.logs_equal.refl;
    least = least;
  }

  pub in_terms : (l : L) → IsAmong l used → IsAmong (kind.committed l) terms
  in_terms l among = among_map kind.committed l used among

  -- a leader id of a term after 0 is of a campaign, so it has a node
  pub has_node : (l : L) → IsAmong l used → 0 < kind.term_of l → (n : K) × (kind.voted l ≡ Some n)
  has_node l (inl e) term =
      let zero_term = is.start_term in
      let at : kind.term_of l ≡ kind.term_of c.start = ap kind.term_of e in
      absurd (omega (arith, zero_term, at, term))
  has_node l (inr among) term = is.node l among

  pub not_first : (l : L) → IsAmong l used → 0 < kind.term_of l → kind.committed l ≡ kind.committed c.start → ⊥
  not_first l (inl e) term same =
      let zero_term = is.start_term in
      let at : kind.term_of l ≡ kind.term_of c.start = ap kind.term_of e in
      omega (arith, zero_term, at, term)
  not_first l (inr among) term same = is.not_start l among same

-- nodes with campaigns are a cluster
pub nodes_cluster : {K L C : Type 0} (kind : LeaderMembers L K C)
    → ((t : ℕ) (n : K) → (kind.term_of (kind.leader_of t n) ≡ t) × (kind.voted (kind.leader_of t n) ≡ Some n)
    × (kind.committed_of t n ≡ kind.committed (kind.leader_of t n)))
    → ((a b : L) → kind.committed a ≡ kind.committed b → kind.term_of a ≡ kind.term_of b) → NodesAreACluster kind
nodes_cluster {K} {L} kind made one_term configs start campaigns some zero_term = record {
  has_config = some;
  start_term = zero_term;
  later = later;
  node = λ l among. (let x = campaign_of l among in (x.0.1, ap kind.voted x.2 ∙ (made (x.0.0 + 1) x.0.1).1));
  not_start = λ l among same. (let t = one_term l start same in let past = later l among in omega (arith, t, past, zero_term));
}
  where
    campaign_of : (l : L) → IsAmong l (map (λ (x : ℕ × K). kind.leader_of (x.0 + 1) x.1) campaigns)
        → (x : ℕ × K) × IsAmong x campaigns × (l ≡ kind.leader_of (x.0 + 1) x.1)
    campaign_of l among = from_map (λ (x : ℕ × K). kind.leader_of (x.0 + 1) x.1) l campaigns among

    later : (l : L) → IsAmong l (map (λ (x : ℕ × K). kind.leader_of (x.0 + 1) x.1) campaigns) → 0 < kind.term_of l
    later l among =
        let x = campaign_of l among in
        let t : kind.term_of l ≡ x.0.0 + 1 = ap kind.term_of x.2 ∙ (made (x.0.0 + 1) x.0.1).0 in
        omega (arith, t)
