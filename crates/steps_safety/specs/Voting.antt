-- What a voter keeps: rule 1.
use Rattle.std.specs.Prelude.{◌≡◌, ◌⊎◌, ◌<◌, false, List, ◌∷◌, Option, Some}
use Rattle.raft_base.specs.declared.log_id.LogIdOf.{LogIdOf}
use Rattle.raft_base.specs.declared.vote.VoteIn.{VoteIn}
use Rattle.safety_laws.specs.Events.{Event, GrantVote}
use Rattle.safety_laws.specs.Facts.{HasVoted}
use Rattle.safety_laws.specs.Ranks.{IsAmong}
use Rattle.safety_laws.specs.Rules.{MayGrantVote}
use Rattle.steps_safety.specs.Server.{IsLastId, IsServer, Leaders, Place, State}

module _ {L C K D : Type 0} (k : Leaders L C K) (p : Place L C K D) where
  -- a request for a vote was sent: by another server, a candidate, for its term, with the last log id
  -- of the log with which it asks
  pub record IsAsked (vote : VoteIn L) (last : Option (LogIdOf C)) : Type 0 where
    pub candidate : K
    pub is_for : k.voted vote.leader_id ≡ Some candidate
    pub other : candidate ≡ p.server → ⊥
    pub not_committed : vote.committed ≡ false
    pub term : 0 < k.term_of vote.leader_id
    pub in_use : IsAmong vote.leader_id p.leaders
    pub own : HasVoted (k.committed vote.leader_id) candidate (p.history.events candidate)
    pub log : IsLastId p.first p.terms (p.history.candidate_log (k.committed vote.leader_id) candidate)
        last

  -- a server has granted a vote: it did so before, or may do so by rule 1, and is the server of its
  -- state after that
  pub record VotesByRule (vote : VoteIn L) (es : List (Event C K D)) (new : State L C) : Type 0 where
    pub candidate : K
    pub is_for : k.voted vote.leader_id ≡ Some candidate
    pub events : List (Event C K D)
    pub rule : (events ≡ es) ⊎ ((events ≡ GrantVote (k.committed vote.leader_id) candidate ∷ es)
        × MayGrantVote p.rank p.quorum p.history p.server es (k.committed vote.leader_id) candidate)
    pub has_voted : HasVoted (k.committed vote.leader_id) candidate events
    pub server : IsServer k p new events
