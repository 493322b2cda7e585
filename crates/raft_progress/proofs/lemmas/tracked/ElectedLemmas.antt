-- What is granted of matches meets what is granted of votes.
use Rattle.std.specs.Prelude.{◌≡◌, ◌<◌, ◌⊎◌, Bool, true, false, ◌&&◌, List, [], ◌∷◌, Option, Some, None, length}
use Rattle.std.specs.declared.cmp.Ordering.{Ordering}
use Rattle.std.specs.declared.cmp.Ordering.TheVariants.{Equal}
use Rattle.std.specs.Ordering.{is_lt}
use Rattle.std.specs.Cmp.{IsEquivalence, IsTotalOrder, first_so, second_so}
use Rattle.std.proofs.Common.{ap, arith, inl, inr, refl, sym, ◌∙◌, true≢false}
use Rattle.raft_members.specs.quorum.Coherence.{is_coherent}
use Rattle.raft_members.specs.quorum.Majority.{is_joint_majority}
use Rattle.raft_members.proofs.CallerLemmas.{quorum_reaches}
use Rattle.raft_progress.specs.progress.CountedValue.{AtMost, IsReached, has_part, reached}
use Rattle.raft_progress.specs.progress.ProgressView.{state}
use Rattle.raft_progress.specs.tracked.Elected.{ElectedLacksNothing, GrantedMeet}
use Rattle.raft_progress.specs.tracked.TrackedState.{IsReady, TrackedView, has_quorum}
use Rattle.raft_progress.proofs.lemmas.tracked.HeadlineLemmas.{by_configs, is_granted, larger}
use Rattle.raft_progress.proofs.lemmas.OrderLemmas.{AtMost-from_not_lt, AtMost-trans}
use Rattle.raft_progress.proofs.lemmas.ListLemmas.{both}

no_configs : {K : Type 0} (eq : K → K → Bool) (ds : List (List K)) → is_coherent eq [] ds ≡ false
no_configs eq [] = refl
no_configs eq (d ∷ ds) = no_configs eq ds

-- configs that share one have one
pub some_config : {K : Type 0} (eq : K → K → Bool) (cs ds : List (List K)) → is_coherent eq cs ds ≡ true → 0 < length cs
some_config eq [] ds h = absurd (true≢false (sym h ∙ no_configs eq ds))
some_config eq (c ∷ cs) ds h = omega arith

module _ {K N V P : Type 0} {eq : K → K → Bool} (laws : IsEquivalence eq) {id_cmp : K → K → Ordering} {cmp : P → P → Ordering}
    (o : IsTotalOrder cmp) (part : V → P) (t : TrackedView K N V P) (r : IsReady eq id_cmp cmp part t) where
  abbrev votes : K → Bool
  votes id = (state eq t.progress).is_voter id && has_part cmp part t.progress.granted ((state eq t.progress).value id)

  up : (q : P) → AtMost cmp t.progress.granted q → (value : Option V) → has_part cmp part q value ≡ true
      → has_part cmp part t.progress.granted value ≡ true
  up q h None e = e
  up q h (Some v) e = AtMost-trans o t.progress.granted q (part v) h e

  -- if more is granted than the default, a quorum of the configs has reached it
  pub quorum_has : is_lt (cmp t.progress.default_part t.progress.granted) ≡ true → is_joint_majority eq t.membership.configs votes ≡ true
  quorum_has lt = by r.ordered.counted.is_one
    where
      by : (cmp t.progress.default_part t.progress.granted ≡ Equal)
          ⊎ ((x : K) × (v : V) × IsReached cmp part (has_quorum eq) (state eq t.progress) x v × (cmp (part v) t.progress.granted ≡ Equal))
          → is_joint_majority eq t.membership.configs votes ≡ true
      by (inl e) = absurd (true≢false (sym lt ∙ ap is_lt e))
      by (inr w) = by_configs laws o part t r votes
          (larger laws o part t r (reached cmp part (state eq t.progress) (part w.1)) votes
          (λ x h. both _ _ (first_so _ _ h) (up (part w.1) (AtMost-from_not_lt o (part w.1) t.progress.granted (ap is_lt w.3))
          ((state eq t.progress).value x) (second_so ((state eq t.progress).is_voter x) _ h))) w.2.quorum)

module _ {K N M V P W Q : Type 0} {eq : K → K → Bool} (laws : IsEquivalence eq) (id_cmp : K → K → Ordering) {cmp : P → P → Ordering}
    (o : IsTotalOrder cmp) (part : V → P) {vote_cmp : Q → Q → Ordering} (vote_order : IsTotalOrder vote_cmp) (vote_part : W → Q) where
  pub granted_meet : GrantedMeet K N M V P W Q eq id_cmp cmp part vote_cmp vote_part
  granted_meet matches votes e =
      let set = quorum_has laws vote_order vote_part votes e.votes_ready e.has_voted in
      let k = quorum_reaches laws matches.membership.configs votes.membership.configs _ _
      (is_granted laws o part matches e.matches_ready
      (some_config eq matches.membership.configs votes.membership.configs e.share_config)) e.share_config _ set in
      record {
        voter = k.0;
        counts_in_matches = k.2;
        counts_in_votes = first_so _ _ k.1;
        has_matched = k.3;
        has_voted = second_so ((state eq votes.progress).is_voter k.0) _ k.1;
      }

  pub elected_lacks_nothing : ElectedLacksNothing K N M V P W Q eq id_cmp cmp part vote_cmp vote_part
  elected_lacks_nothing matches votes p e none =
      let m = granted_meet matches votes e in
      by m.voter ((state eq matches.progress).value m.voter) refl m.has_matched (λ v is. none m.voter v m.counts_in_votes m.has_voted is)
    where
      by : (id : K) (value : Option V) → (state eq matches.progress).value id ≡ value
          → has_part cmp part matches.progress.granted value ≡ true
          → ((v : V) → (state eq matches.progress).value id ≡ Some v → AtMost cmp (part v) p) → AtMost cmp matches.progress.granted p
      by id None is has most = absurd (true≢false (sym has))
      by id (Some v) is has most = AtMost-trans o matches.progress.granted (part v) p has (most v is)
