-- What a candidate knows, and what elects it.
use Rattle.std.specs.Prelude.{◌≡◌, ◌≤◌, ◌+◌, ◌^◌, ℕ, Bool, false, max, ◌&&◌, ◌||◌, not, nat_lt}
use Rattle.std.specs.Prelude.{List, length, Option, Some, is_some, IsTrue}
use Rattle.std.specs.Set.{is_member}
use Rattle.std.specs.Option.{option_map_or}
use Rattle.std.specs.declared.cmp.Ordering.TheVariants.{Greater}
use mathlib.Core.Bool.{beq}
use Rattle.raft_base.specs.UTime.{moment_of, utime_of}
use Rattle.raft_base.specs.Vote.{vote_cmp}
use Rattle.raft_base.specs.declared.log_id.LogIdOf.{LogIdOf}
use Rattle.raft_base.specs.declared.vote.VoteIn.{VoteIn}
use Rattle.raft_members.specs.quorum.Majority.{is_joint_majority, is_voter_of}
use Rattle.raft_members.specs.membership.Stored.{membership_of}
use Rattle.raft_progress.specs.progress.ProgressView.{state}
use Rattle.raft_progress.specs.tracked.EachConfig.{MajorityOfEach}
use Rattle.raft_progress.specs.tracked.TrackedState.{TrackedView}
use Rattle.raft_state.specs.log_id_list.FullLog.{end_index, full_log}
use Rattle.raft_state.specs.log_id_list.LogReads.{last_id}
use Rattle.raft_state.specs.membership_state.Memberships.{Memberships, in_effect}
use Rattle.raft_state.specs.raft_state.VoteAndLog.{vote_of}
use Rattle.raft_state.specs.declared.raft_state.RaftStateIn.{RaftStateIn}
use Rattle.steps_handlers.specs.Compared.{Compared}
use Rattle.steps_handlers.specs.declared.error.CampaignError.{CampaignError}
use Rattle.steps_handlers.specs.declared.error.CampaignError.TheVariants.{NoNextTerm, NotVoter, OutOfMemory}
use Rattle.steps_handlers.specs.declared.error.LeadError.{LeadError}
use Rattle.steps_handlers.specs.declared.error.LeadError.TheVariants as lead
use Rattle.steps_handlers.specs.declared.message.VoteResponse.{VoteResponse}

-- the node that campaigns, its vote, its last log id, and who of the members has voted for it
pub record Campaign (K N L C : Type 0) : Type 0 where
  pub id : K
  pub vote : VoteIn L
  pub last_log_id : Option (LogIdOf C)
  pub votes : TrackedView K N Bool Bool

module _ {K N L C : Type 0} (eq : K → K → Bool) where
  -- whether an id is a member of the membership that votes are counted by
  abbrev pub is_counted : Campaign K N L C → K → Bool
  is_counted c id = is_some ((state eq c.votes.progress).value id)

  -- whether an id has voted for the candidate
  abbrev pub has_vote_of : Campaign K N L C → K → Bool
  has_vote_of c id = option_map_or (λ v. v) ((state eq c.votes.progress).value id) false

  -- a majority of each config has voted for the candidate, and there is a config
  abbrev pub HasMajorities : Campaign K N L C → Type 0
  HasMajorities c = MajorityOfEach eq c.votes (λ v. v)

  -- a node may have voted once all have responded: it has voted for the candidate, or it is not among
  -- those who have refused
  abbrev pub can_have_vote_of : Campaign K N L C → (refused : List K) → K → Bool
  can_have_vote_of c refused id = has_vote_of c id || not (is_member eq refused id)

  -- those who have voted for the candidate or have not refused are a majority of each config, and there
  -- is a config
  abbrev pub can_have_majorities : Campaign K N L C → (refused : List K) → Bool
  can_have_majorities c refused =
      nat_lt 0 (length c.votes.membership.configs)
      && is_joint_majority eq c.votes.membership.configs (can_have_vote_of c refused)

  -- the vote of a member is counted, and all else is as it was
  pub record CountsVoteOf (from : K) (old new : Campaign K N L C) : Type 0 where
    pub counted : (id : K)
        → has_vote_of new id ≡ (has_vote_of old id || (eq from id && is_counted old from))
    pub members : new.votes.membership ≡ old.votes.membership
    pub rest : new ≡ record old { votes = new.votes }

-- two votes are equal: for equal leaders, and both committed or neither
abbrev pub same_vote : {L : Type 0} → (L → L → Bool) → VoteIn L → VoteIn L → Bool
same_vote eq a b = eq a.leader_id b.leader_id && beq a.committed b.committed

-- whether a response grants this very vote
abbrev pub grants_vote : {L : Type 0} → (L → L → Bool) → VoteIn L → VoteResponse L → Bool
grants_vote eq vote response = response.granted && same_vote eq response.vote vote

-- a node may campaign if it is a voter of the effective or of the committed membership
abbrev pub may_campaign : {K N C : Type 0} → (K → K → Bool) → K → Memberships C K N → Bool
may_campaign eq id m =
    is_voter_of eq (membership_of m.effective).configs id
    || is_voter_of eq (membership_of m.committed).configs id

-- a node campaigns, which may: its state promises a vote for it in the term after the greatest one that
-- it has heard of; votes are counted by the effective membership, of which each voter is counted, and
-- of whose members only the node itself has voted yet
pub record Campaigns {K N I L C : Type 0} (by : Compared K N L C) (id : K) (greatest_term : ℕ)
    (old new : RaftStateIn K N I L C) (made : Campaign K N L C) : Type 0 where
  pub may : IsTrue (may_campaign by.id_eq id old.membership_state)
  pub node : made.id ≡ id
  pub vote : made.vote ≡ record {
    leader_id = by.leader_of (max greatest_term (by.term_of (vote_of old).leader_id) + 1) id;
    committed = false;
  }
  pub is_greater : vote_cmp by.order made.vote (vote_of old) ≡ Some Greater
  pub promised : new ≡ record old { vote = utime_of made.vote (moment_of old.vote) }
  pub last : made.last_log_id ≡ last_id (full_log old.log_ids)
  pub configs : made.votes.membership.configs ≡ (in_effect old.membership_state).configs
  pub voters_counted : (x : K)
      → IsTrue (is_voter_of by.id_eq (in_effect old.membership_state).configs x)
      → IsTrue (is_counted by.id_eq made x)
  pub own_vote : (x : K)
      → has_vote_of by.id_eq made x ≡ (by.id_eq id x && is_counted by.id_eq made id)

-- why a node does not campaign: it may not, there is no greater term, or an allocation failed
abbrev pub IsCampaignRefusal : {K N C : Type 0} → (K → K → Bool) → K → ℕ → Memberships C K N
    → CampaignError → Type 0
IsCampaignRefusal eq id greatest m NotVoter = may_campaign eq id m ≡ false
IsCampaignRefusal eq id greatest m NoNextTerm = 2 ^ 64 ≤ greatest + 1
IsCampaignRefusal eq id greatest m OutOfMemory = Unit {0}

-- why a candidate does not lead: no quorum has elected it, the state has another vote, no index is
-- after its log, or an allocation failed
abbrev pub IsElectionRefusal : {K N I L C : Type 0} → (K → K → Bool) → (L → L → Bool)
    → Campaign K N L C → RaftStateIn K N I L C → LeadError → Type 0
IsElectionRefusal eq same c s lead.NotElected = HasMajorities eq c → ⊥
IsElectionRefusal eq same c s lead.NotLeader = same_vote same (vote_of s) c.vote ≡ false
IsElectionRefusal eq same c s lead.NoNextIndex =
    nat_lt (end_index (full_log s.log_ids)) (2 ^ 64) ≡ false
IsElectionRefusal eq same c s lead.OutOfMemory = Unit {0}
