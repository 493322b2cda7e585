-- Calls of the handlers are steps of an execution: what is known of a history, and what each call keeps.
use Rattle.std.specs.Prelude.{◌≡◌, ◌<◌, ◌-◌, ℕ, suc, Bool, true, false, List, ◌∷◌, Option, Some, None, take}
use Rattle.raft_base.specs.declared.log_id.LogIdOf.{LogIdOf}
use Rattle.raft_base.specs.declared.vote.VoteIn.{VoteIn}
use Rattle.raft_base.specs.LogId.{next_index}
use Rattle.safety_laws.specs.Events.{History, log_after}
use Rattle.safety_laws.specs.Facts.{HasAcked, HasVoted, IsElected}
use Rattle.safety_laws.specs.Configs.{QuorumsIntersect, is_quorum}
use Rattle.safety_laws.specs.Execution.{FactsAreStable, IsExecution}
use Rattle.safety_laws.specs.Ranks.{IsAmong}
use Rattle.steps_safety.specs.Server.{AreRanked, IsServer, KnowsCommitted, Leaders, Place, State}
use Rattle.steps_safety.proofs.Whole.{IsWhole}
use Rattle.steps_safety.specs.Voting.{IsAsked}
use Rattle.steps_safety.proofs.Calls.{AppendConflicts, AppendMatches, HandlesVoteRequest, InstallMatches, InstallShape, MatchShape}
use Rattle.steps_safety.specs.Appending.{InLogIfAny, IsSent, IsSnapshotSent}

-- what is fixed in a cluster
pub record SeenCluster (L C K D M : Type 0) : Type 0 where
  pub kind : Leaders L C K
  pub rank : C → ℕ
  pub config_of : D → Option M
  pub initial : M
  pub quorum_of : M → (K → Bool) → Bool
  pub leaders : List L
  pub terms : List C
  pub first : C
  pub same_node : K → K → Bool

module _ {L C K D M : Type 0} (c : SeenCluster L C K D M) where
  -- a server in a history
  abbrev pub at_server : History C K D → K → Place L C K D
  at_server h s = record {
    rank = c.rank;
    quorum = is_quorum c.rank c.config_of c.initial c.quorum_of;
    leaders = c.leaders;
    terms = c.terms;
    first = c.first;
    history = h;
    server = s;
  }

  -- leader ids in use are ranked, and those that do not compare are of one term. Each of a term after 0
  -- has a node. Node ids are compared exactly, and quorums of the initial config intersect
  pub record IsSeenCluster : Type 0 where
    pub ranked : AreRanked c.kind c.rank c.leaders c.terms c.first
    pub in_terms : (l : L) → IsAmong l c.leaders → IsAmong (c.kind.committed l) c.terms
    pub distinct : (t u : C) → IsAmong t c.terms → IsAmong u c.terms → c.rank t ≡ c.rank u → t ≡ u
    pub one_term : (l m : L) → c.kind.order l m ≡ None → c.kind.term_of l ≡ c.kind.term_of m
    pub has_node : (l : L) → IsAmong l c.leaders → 0 < c.kind.term_of l → (n : K) × (c.kind.voted l ≡ Some n)
    pub nodes : (x y : K) → c.same_node x y ≡ true → x ≡ y
    pub node_itself : (x : K) → c.same_node x x ≡ true
    pub intersects : QuorumsIntersect c.quorum_of c.initial c.initial

  -- a history came about by an execution, in which all terms are among those in use
  pub record IsPast (h : History C K D) (earlier : List (History C K D)) : Type 0 where
    pub execution : IsExecution c.rank c.config_of c.initial c.quorum_of h earlier
    pub in_use : (s : K) (t : C) (d : K) → HasVoted t d (h.events s) → IsAmong t c.terms
    pub asked_first : (s : K) (t : C) (d : K) → HasVoted t d (h.events s) → HasVoted t d (h.events d)

  -- a history goes on by events of one server
  pub record GoesOn (s : K) (h : History C K D) (before : List (History C K D)) (after : History C K D)
      : Type 0 where
    pub earlier : List (History C K D)
    pub kept : (g : History C K D) → IsAmong g (h ∷ before) → IsAmong g (after ∷ earlier)
    pub past : IsPast after earlier
    pub stable : FactsAreStable c.rank c.config_of c.initial c.quorum_of h after
    pub others : (r : K) → c.same_node s r ≡ false → after.events r ≡ h.events r
    pub logs : (t : C) (d : K) → c.same_node s d ≡ false
        → (after.candidate_log t d ≡ h.candidate_log t d) × (after.leader_log t d ≡ h.leader_log t d)

  -- a server has the state `new` after a step, in which the history went on
  pub record IsStepOf (s : K) (h : History C K D) (before : List (History C K D)) (new : State L C)
      : Type 0 where
    pub after : History C K D
    pub goes_on : GoesOn s h before after
    pub server : IsServer c.kind (at_server after s) new (after.events s)
    pub still_known : (n : ℕ)
        → KnowsCommitted c.rank (is_quorum c.rank c.config_of c.initial c.quorum_of) h (h.events s) n
        → KnowsCommitted c.rank (is_quorum c.rank c.config_of c.initial c.quorum_of) after (after.events s) n

  -- of an elected leader this holds
  pub record FromLeader (h : History C K D) (leader : L) (Holds : K → Type 0) : Type 0 where
    pub by_node : K
    pub is_for : c.kind.voted leader ≡ Some by_node
    pub elected : IsElected c.rank (is_quorum c.rank c.config_of c.initial c.quorum_of) h (c.kind.committed leader) by_node
    pub shape : Holds by_node

  -- a response that grants a vote is true
  pub record IsVoted (h : History C K D) (by_node : K) (vote : VoteIn L) : Type 0 where
    pub candidate : K
    pub is_for : c.kind.voted vote.leader_id ≡ Some candidate
    pub voted : HasVoted (c.kind.committed vote.leader_id) candidate (h.events by_node)

  -- a vote that a server has, or had when it answered: its leader id is in use, its node has voted for
  -- itself, and is elected if the vote is committed
  pub record IsPromised (h : History C K D) (vote : VoteIn L) : Type 0 where
    pub in_use : IsAmong vote.leader_id c.leaders
    pub own : (n : K) → 0 < c.kind.term_of vote.leader_id → c.kind.voted vote.leader_id ≡ Some n
        → HasVoted (c.kind.committed vote.leader_id) n (h.events n)
    pub elected : (n : K) → vote.committed ≡ true → 0 < c.kind.term_of vote.leader_id
        → c.kind.voted vote.leader_id ≡ Some n
        → IsElected c.rank (is_quorum c.rank c.config_of c.initial c.quorum_of) h
        (c.kind.committed vote.leader_id) n

  -- a response that a log matches up to a log id is true
  pub record IsMatched (h : History C K D) (by_node : K) (leader : L) (upto : Option (LogIdOf C))
      : Type 0 where
    pub to_node : K
    pub is_for : c.kind.voted leader ≡ Some to_node
    pub elected : IsElected c.rank (is_quorum c.rank c.config_of c.initial c.quorum_of) h
        (c.kind.committed leader) to_node
    pub there : InLogIfAny c.kind (at_server h by_node)
        (h.leader_log (c.kind.committed leader) to_node) upto
    pub acked : (i : ℕ) → next_index upto ≡ suc i
        → HasAcked (c.kind.committed leader) to_node i (h.events by_node)

-- a call of `handle_vote_request` is a step, and its response is true
abbrev pub VotesAreSteps : Type 0 → Type 0 → Type 0 → Type 0 → Type 0 → Type 0
VotesAreSteps L C K D M =
    (c : SeenCluster L C K D M) → IsSeenCluster c → (h : History C K D) (earlier : List (History C K D))
    → IsPast c h earlier → (s : K) (vote : VoteIn L) (last : Option (LogIdOf C)) (old new : State L C)
    (granted : Bool) → IsServer c.kind (at_server c h s) old (h.events s)
    → IsAsked c.kind (at_server c h s) vote last
    → HandlesVoteRequest c.kind (at_server c h s) vote last old new granted
    → (step : IsStepOf c s h earlier new) × (granted ≡ true → IsVoted c step.after s vote)
    × (log_after (step.after.events s) ≡ log_after (h.events s))

-- so is a call of `handle_append_entries`
abbrev pub AppendsAreSteps : Type 0 → Type 0 → Type 0 → Type 0 → Type 0 → Type 0
AppendsAreSteps L C K D M =
    (c : SeenCluster L C K D M) → IsSeenCluster c → (h : History C K D) (earlier : List (History C K D))
    → IsPast c h earlier → (s : K) (leader : L) (prev : Option (LogIdOf C)) (ids : List (LogIdOf C))
    (committed : Option (LogIdOf C)) (old new : State L C)
    → IsServer c.kind (at_server c h s) old (h.events s) → IsWhole old.purged_next old.ids
    → IsWhole new.purged_next new.ids → IsSent c.kind (at_server c h s) leader prev ids committed
    → (((upto : Option (LogIdOf C))
    → AppendMatches c.kind (at_server c h s) leader prev ids committed upto old new
    → (step : IsStepOf c s h earlier new) × IsMatched c step.after s leader upto
    × FromLeader c h leader
    (λ by_node. MatchShape c.kind (at_server c h s) (h.events s) leader by_node (log_after (step.after.events s)) ids old))
    × ((at : ℕ) → AppendConflicts c.kind (at_server c h s) leader prev at old new
    → (step : IsStepOf c s h earlier new) × (log_after (step.after.events s) ≡ take (at - 1) (log_after (h.events s)))))

-- so is a call of `handle_install_snapshot`
abbrev pub InstallsAreSteps : Type 0 → Type 0 → Type 0 → Type 0 → Type 0 → Type 0
InstallsAreSteps L C K D M =
    (c : SeenCluster L C K D M) → IsSeenCluster c → (h : History C K D) (earlier : List (History C K D))
    → IsPast c h earlier → (s : K) (leader : L) (upto : LogIdOf C) (old new : State L C)
    → IsServer c.kind (at_server c h s) old (h.events s) → IsWhole old.purged_next old.ids
    → IsSnapshotSent c.kind (at_server c h s) leader upto
    → InstallMatches c.kind (at_server c h s) leader upto old new
    → (step : IsStepOf c s h earlier new) × IsMatched c step.after s leader (Some upto)
    × FromLeader c h leader
    (λ by_node. InstallShape c.kind (at_server c h s) (h.events s) leader by_node (log_after (step.after.events s)) upto old new)

-- a step of one server leaves what is known of the states of others, and of messages
pub record StepLeaves {L C K D M : Type 0} (c : SeenCluster L C K D M) (s : K) (h after : History C K D)
    : Type 0 where
  pub servers : (r : K) (x : State L C) → c.same_node s r ≡ false
      → IsServer c.kind (at_server c h r) x (h.events r)
      → IsServer c.kind (at_server c after r) x (after.events r)
  pub asked : (r : K) (vote : VoteIn L) (last : Option (LogIdOf C))
      → IsAsked c.kind (at_server c h r) vote last → IsAsked c.kind (at_server c after r) vote last
  pub sent : (r : K) (leader : L) (prev : Option (LogIdOf C)) (ids : List (LogIdOf C))
      (committed : Option (LogIdOf C)) → IsSent c.kind (at_server c h r) leader prev ids committed
      → IsSent c.kind (at_server c after r) leader prev ids committed
  pub snapshot_sent : (r : K) (leader : L) (upto : LogIdOf C)
      → IsSnapshotSent c.kind (at_server c h r) leader upto
      → IsSnapshotSent c.kind (at_server c after r) leader upto
  pub voted : (r : K) (vote : VoteIn L) → IsVoted c h r vote → IsVoted c after r vote
  pub promised : (vote : VoteIn L) → IsPromised c h vote → IsPromised c after vote
  pub matched : (r : K) (leader : L) (upto : Option (LogIdOf C)) → IsMatched c h r leader upto
      → IsMatched c after r leader upto

abbrev pub StepsStay : Type 0 → Type 0 → Type 0 → Type 0 → Type 0 → Type 0
StepsStay L C K D M =
    (c : SeenCluster L C K D M) → IsSeenCluster c → (h after : History C K D) (earlier : List (History C K D))
    (s : K) → IsPast c h earlier → GoesOn c s h earlier after → StepLeaves c s h after
