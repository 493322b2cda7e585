-- What is granted has been reached by a quorum of the membership, or by all voters.
use Rattle.std.specs.Prelude.{◌≡◌, ◌<◌, ◌⊎◌, ℕ, Bool, true, false, ◌&&◌, ◌||◌, cond, List, [], ◌∷◌, Option, Some, None, length, take, refl}
use Rattle.std.specs.declared.cmp.Ordering.{Ordering}
use Rattle.std.specs.declared.cmp.Ordering.TheVariants.{Equal}
use Rattle.std.specs.Ordering.{is_lt}
use Rattle.std.specs.Cmp.{IsEquivalence, IsTotalOrder, first_so, second_so}
use Rattle.std.specs.Map.{keys_of, lookup}
use Rattle.std.specs.Set.{is_member}
use Rattle.std.proofs.Common.{ap, inl, inr, sym, ◌∙◌, true≢false, suc, zero}
use Rattle.raft_members.specs.membership.Change.{changed}
use Rattle.raft_members.specs.quorum.Majority.{is_joint_majority, is_majority}
use Rattle.raft_members.specs.quorum.MajorityLawful.{is_majority-superset, list_all-weaker}
use Rattle.raft_members.specs.quorum.Meeting.{RespectsEquality}
use Rattle.raft_members.specs.membership.Members.{members_of}
use Rattle.raft_members.specs.quorum.Reached.{EachQuorumKnows, IsGranted, VotersReached}
use Rattle.raft_members.specs.declared.change_members.ChangeMembers.{ChangeMembers}
use Rattle.raft_members.proofs.CallerLemmas.{change_keeps_reached}
use Rattle.raft_progress.specs.progress.CountedValue.{AtMost, has_part, reached}
use Rattle.raft_progress.specs.progress.InOrder.{IsInOrder}
use Rattle.raft_progress.specs.progress.ProgressView.{ProgressView, state}
use Rattle.raft_progress.specs.tracked.TrackedState.{IsReady, TrackedView, has_quorum}
use Rattle.raft_progress.proofs.lemmas.OrderLemmas.{AtMost-from_not_lt, AtMost-trans}
use Rattle.raft_progress.proofs.lemmas.progress.UpdateLemmas.{lookup_alike}
use Rattle.raft_progress.proofs.lemmas.ListLemmas.{both}
use Rattle.raft_members.proofs.CallerLemmas.{is_member-alike}
use Rattle.std.proofs.lemmas.List.Folds.{list_all-map}

-- a member of the first keys has a value
has_value : {K V : Type 0} (eq : K → K → Bool) (n : ℕ) (entries : List (K × V)) (x : K) → is_member eq (take n (keys_of entries)) x ≡ true
    → (v : V) × (lookup (eq x) entries ≡ Some v)
has_value eq zero entries x h = absurd (true≢false (sym h))
has_value eq (suc n) [] x h = absurd (true≢false (sym h))
has_value {K} {V} eq (suc n) (e ∷ es) x h = by (eq x e.0) h (has_value eq n es x)
  where
    by : (b : Bool) → (b || is_member eq (take n (keys_of es)) x) ≡ true
        → (is_member eq (take n (keys_of es)) x ≡ true → (v : V) × (lookup (eq x) es ≡ Some v))
        → (v : V) × (cond b (Some e.1) (lookup (eq x) es) ≡ Some v)
    by true m r = (e.1, refl)
    by false m r = r m

module _ {K V P QS : Type 0} {eq : K → K → Bool} (laws : IsEquivalence eq) {cmp : P → P → Ordering} (o : IsTotalOrder cmp) (part : V → P)
    (has_quorum : QS → (K → Bool) → Bool) (p : ProgressView K V P QS)
    (superset : (s t : K → Bool) → ((x : K) → s x ≡ true → t x ≡ true) → has_quorum p.quorum_set s ≡ true
    → has_quorum p.quorum_set t ≡ true) (r : IsInOrder eq cmp part has_quorum p) where
  abbrev knows : K → Bool
  knows id = has_part cmp part p.granted ((state eq p).value id)

  pub knows_alike : RespectsEquality eq (λ id. (state eq p).is_voter id && knows id)
  knows_alike x y e = λ i. is_member-alike laws x y e (take p.voter_count (keys_of p.entries)) i
      && has_part cmp part p.granted (lookup_alike laws x y e p.entries i)

  back : (a b : P) → cmp a b ≡ Equal → AtMost cmp b a
  back a b e = AtMost-from_not_lt o a b (ap is_lt e)

  more : (q : P) → AtMost cmp p.granted q → (value : Option V) → has_part cmp part q value ≡ true → has_part cmp part p.granted value ≡ true
  more q up None h = h
  more q up (Some v) h = AtMost-trans o p.granted q (part v) up h

  -- a quorum of the voters has reached granted, or all voters have
  pub granted_reached : (has_quorum p.quorum_set (λ id. (state eq p).is_voter id && knows id) ≡ true)
      ⊎ ((id : K) → (state eq p).is_voter id ≡ true → knows id ≡ true)
  granted_reached =
      elim r.counted.is_one as (λ _. (has_quorum p.quorum_set (λ id. (state eq p).is_voter id && knows id) ≡ true)
      ⊎ ((id : K) → (state eq p).is_voter id ≡ true → knows id ≡ true)) [
        | inl e ↦ inr (λ id v. all e id v)
        | inr w ↦ inl (superset (reached cmp part (state eq p) (part w.1)) (λ id. (state eq p).is_voter id && knows id)
            (λ x h. both _ _ (first_so _ _ h) (more (part w.1) (back (part w.1) p.granted w.3) ((state eq p).value x)
            (second_so ((state eq p).is_voter x) _ h))) w.2.quorum)
      ]
    where
      all : cmp p.default_part p.granted ≡ Equal → (id : K) → (state eq p).is_voter id ≡ true → knows id ≡ true
      all e id v =
          let at = has_value eq p.voter_count p.entries id v in
          ap (has_part cmp part p.granted) at.1
          ∙ AtMost-trans o p.granted p.default_part (part at.0) (back p.default_part p.granted e) (r.not_below id at.0 v at.1)

module _ {K N V P : Type 0} {eq : K → K → Bool} (laws : IsEquivalence eq) {id_cmp : K → K → Ordering} {cmp : P → P → Ordering}
    (o : IsTotalOrder cmp) (part : V → P) (t : TrackedView K N V P) (r : IsReady eq id_cmp cmp part t) where
  abbrev pub voter : K → Bool
  voter = (state eq t.progress).is_voter

  abbrev pub knows_granted : K → Bool
  knows_granted id = has_part cmp part t.progress.granted ((state eq t.progress).value id)

  pub larger : (s u : K → Bool) → ((x : K) → s x ≡ true → u x ≡ true) → has_quorum eq t.progress.quorum_set s ≡ true
      → has_quorum eq t.progress.quorum_set u ≡ true
  larger s u h = list_all-weaker (λ c. is_majority eq c.items s) (λ c. is_majority eq c.items u)
      (λ c. is_majority-superset eq c.items s u h) t.progress.quorum_set.items

  -- a quorum that is counted is one of the membership's configs
  pub by_configs : (s : K → Bool) → has_quorum eq t.progress.quorum_set s ≡ true → is_joint_majority eq t.membership.configs s ≡ true
  by_configs s q = ap (λ cs. is_joint_majority eq cs s) (sym r.counts_by.configs)
      ∙ list_all-map (λ c. is_majority eq c s) (λ c. c.items) t.progress.quorum_set.items ∙ q

  -- what is granted is granted in the configs of the membership
  pub is_granted : 0 < length t.membership.configs → IsGranted eq t.membership.configs voter knows_granted
  is_granted some = record {
    has_config = some;
    are_voters = λ id v. r.counts_by.voters id ∙ v;
    respects_equality = knows_alike laws o part (has_quorum eq) t.progress larger r.ordered;
    voters_reached = by (granted_reached laws o part (has_quorum eq) t.progress larger r.ordered);
  }
    where
      by : (has_quorum eq t.progress.quorum_set (λ id. voter id && knows_granted id) ≡ true)
          ⊎ ((id : K) → voter id ≡ true → knows_granted id ≡ true) → VotersReached eq t.membership.configs voter knows_granted
      by (inl q) = inl (by_configs (λ id. voter id && knows_granted id) q)
      by (inr all) = inr all

-- the membership half of what is granted: each quorum of the membership, and of what one change makes of it, knows of it
pub each_quorum_knows : {K N V P : Type 0} {eq : K → K → Bool} (laws : IsEquivalence eq) (id_cmp : K → K → Ordering)
    {cmp : P → P → Ordering} (o : IsTotalOrder cmp) (part : V → P) (t : TrackedView K N V P) → IsReady eq id_cmp cmp part t
    → 0 < length t.membership.configs
    → EachQuorumKnows eq t.membership.configs (state eq t.progress).is_voter
    (λ id. has_part cmp part t.progress.granted ((state eq t.progress).value id))
    × ((change : ChangeMembers K N) (retain : Bool)
    → EachQuorumKnows eq (changed eq id_cmp (members_of id_cmp t.membership) change retain).configs (state eq t.progress).is_voter
    (λ id. has_part cmp part t.progress.granted ((state eq t.progress).value id)))
each_quorum_knows {eq = eq} laws id_cmp {cmp} o part t r some =
    let known = change_keeps_reached laws id_cmp (members_of id_cmp t.membership) (state eq t.progress).is_voter
    (λ id. has_part cmp part t.progress.granted ((state eq t.progress).value id)) (is_granted laws o part t r some) in
    (known.quorums, known.changed_quorums)
