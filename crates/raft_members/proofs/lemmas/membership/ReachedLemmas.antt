-- Each quorum of coherent configs knows what a quorum has reached.
use Rattle.std.proofs.lemmas.Bool.{or_left}
use Rattle.std.specs.Prelude.{◌≡◌, ◌<◌, Bool, true, ◌&&◌, List, [], ◌∷◌, length}
use Rattle.std.proofs.Common.{arith, inl, inr}
use Rattle.std.specs.Cmp.{IsEquivalence, first_so, second_so}
use Rattle.std.specs.Cmp.Lexicographic.{lists_equiv}
use Rattle.raft_members.specs.quorum.Coherence.{is_coherent}
use Rattle.raft_members.specs.quorum.Reached.{VotersReached, IsGranted, EachQuorumKnows}
use Rattle.raft_members.proofs.lemmas.quorum.MeetingLemmas.{coherent_meet, shared_majority, majority_member, voter_there}

module _ {K : Type 0} {e : K → K → Bool} (laws : IsEquivalence e) where
  -- a list of configs is coherent with itself
  pub self_coherent : (cs : List (List K)) → 0 < length cs → is_coherent e cs cs ≡ true
  self_coherent [] h = absurd (omega arith)
  self_coherent (c ∷ cs) h = or_left _ _ (or_left _ _ ((lists_equiv laws).refl c))

  module _ (cs ds : List (List K)) (voter reached : K → Bool) (granted : IsGranted e cs voter reached)
      (co : is_coherent e cs ds ≡ true) where
    reaches_by : VotersReached e cs voter reached → EachQuorumKnows e ds voter reached
    reaches_by (inl h) t q =
        let m = coherent_meet laws cs ds (λ k. voter k && reached k) t granted.respects_equality co h q in
        (m.0, m.4, first_so _ _ m.3, second_so _ _ m.3)
    reaches_by (inr h) t q =
        let s = shared_majority laws cs ds t co q in
        let m = majority_member laws s.0 t s.2 in
        let v = granted.are_voters m.0 (voter_there laws cs s.0 m.0 s.1 m.1) in
        (m.0, m.2, v, h m.0 v)

    -- each quorum of coherent configs knows what is granted
    pub quorum_reaches : EachQuorumKnows e ds voter reached
    quorum_reaches = reaches_by granted.voters_reached
