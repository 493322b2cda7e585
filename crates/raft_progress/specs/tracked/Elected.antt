-- What is granted under one membership meets what is granted under another, as matching log ids
-- meet votes.
use Rattle.std.specs.Prelude.{◌≡◌, Bool, true, Some}
use Rattle.std.specs.Ordering.{is_lt}
use Rattle.std.specs.declared.cmp.Ordering.{Ordering}
use Rattle.raft_members.specs.quorum.Coherence.{is_coherent}
use Rattle.raft_progress.specs.progress.CountedValue.{AtMost, has_part}
use Rattle.raft_progress.specs.progress.ProgressView.{state}
use Rattle.raft_progress.specs.tracked.TrackedState.{IsReady, TrackedView}

module _ {K N M V P W Q : Type 0} (eq : K → K → Bool) (id_cmp : K → K → Ordering)
    (cmp : P → P → Ordering) (part : V → P) (vote_cmp : Q → Q → Ordering) (vote_part : W → Q) where
  -- matching log ids and votes, each counted under a membership, which share a config, as before
  -- and after one change; and more is granted of the votes than their default: a quorum has voted
  pub record IsElection (matches : TrackedView K N V P) (votes : TrackedView K M W Q) : Type 0
    where
      pub matches_ready : IsReady eq id_cmp cmp part matches
      pub votes_ready : IsReady eq id_cmp vote_cmp vote_part votes
      pub share_config : is_coherent eq matches.membership.configs votes.membership.configs ≡ true
      pub has_voted : is_lt (vote_cmp votes.progress.default_part votes.progress.granted) ≡ true

  -- some voter of both memberships matches what is granted of the matching log ids, and has voted
  -- what is granted of the votes
  pub record HasMatchedAndVoted (matches : TrackedView K N V P) (votes : TrackedView K M W Q)
      : Type 0 where
    pub voter : K
    pub counts_in_matches : (state eq matches.progress).is_voter voter ≡ true
    pub counts_in_votes : (state eq votes.progress).is_voter voter ≡ true
    pub has_matched : has_part cmp part matches.progress.granted
        ((state eq matches.progress).value voter) ≡ true
    pub has_voted : has_part vote_cmp vote_part votes.progress.granted
        ((state eq votes.progress).value voter) ≡ true

  -- no voter that has voted what is granted of votes matches more than p
  abbrev pub NoneVotedPast : TrackedView K N V P → TrackedView K M W Q → P → Type 0
  NoneVotedPast matches votes p =
      (id : K) (v : V) → (state eq votes.progress).is_voter id ≡ true
      → has_part vote_cmp vote_part votes.progress.granted ((state eq votes.progress).value id)
      ≡ true
      → (state eq matches.progress).value id ≡ Some v → AtMost cmp (part v) p

module _ (K N M V P W Q : Type 0) (eq : K → K → Bool) (id_cmp : K → K → Ordering)
    (cmp : P → P → Ordering) (part : V → P) (vote_cmp : Q → Q → Ordering) (vote_part : W → Q) where
  -- in an election a voter of both has at least what is granted in each
  abbrev pub GrantedMeet : Type 0
  GrantedMeet =
      (matches : TrackedView K N V P) (votes : TrackedView K M W Q)
      → IsElection eq id_cmp cmp part vote_cmp vote_part matches votes
      → HasMatchedAndVoted eq id_cmp cmp part vote_cmp vote_part matches votes

  -- a candidate that has at least as much as each of its voters has all that is granted
  abbrev pub ElectedLacksNothing : Type 0
  ElectedLacksNothing =
      (matches : TrackedView K N V P) (votes : TrackedView K M W Q) (p : P)
      → IsElection eq id_cmp cmp part vote_cmp vote_part matches votes
      → NoneVotedPast eq id_cmp cmp part vote_cmp vote_part matches votes p
      → AtMost cmp matches.progress.granted p
