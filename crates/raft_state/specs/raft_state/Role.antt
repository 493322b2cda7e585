-- The role of a node, according to its vote and the effective membership.
use Rattle.std.specs.Prelude.{◌≡◌, Bool, not, ◌&&◌, ◌||◌, List, Option, Some, None, IsTrue, is_some, if◌then◌else◌}
use Rattle.std.specs.Option.{option_eq}
use Rattle.std.specs.declared.cmp.Ordering.{Ordering}
use Rattle.raft_base.specs.declared.log_id.LogIdOf.{LogIdOf}
use Rattle.raft_base.specs.declared.server_state.ServerState.{ServerState}
use Rattle.raft_base.specs.declared.server_state.ServerState.TheVariants.{Learner, Follower, Candidate, Leader}
use Rattle.raft_base.specs.declared.vote.VoteIn.{VoteIn}
use Rattle.raft_members.specs.quorum.Majority.{is_voter_of}
use Rattle.raft_members.specs.membership.Members.{MemberList, node_at}
use Rattle.raft_state.specs.log_id_list.LogReads.{last_id}
use Rattle.raft_members.specs.declared.error.ForwardToLeader.{ForwardToLeader}

-- there is a log id, or the vote is not the vote of a new node: it is committed, or for another
-- leader
abbrev pub is_initialized : {L C : Type 0} → (L → L → Bool) → List (LogIdOf C) → VoteIn L → L → Bool
is_initialized eq log vote unset =
    is_some (last_id log) || (vote.committed || not (eq vote.leader_id unset))

-- a node leads or asks to lead: the membership has a node at the id, and the vote is for it
abbrev pub is_leading : {K N L : Type 0} → (K → K → Bool) → (K → K → Ordering) → (L → Option K)
    → MemberList K N → VoteIn L → K → Bool
is_leading eq cmp voted m vote id =
    is_some (node_at cmp m.nodes id) && option_eq eq (voted vote.leader_id) (Some id)

-- a leading node is the leader if its vote is committed, and otherwise a candidate; of the other
-- nodes, voters are followers and the rest are learners
abbrev pub server_state_of : {K N L : Type 0} → (K → K → Bool) → (K → K → Ordering) → (L → Option K)
    → MemberList K N → VoteIn L → K → ServerState
server_state_of eq cmp voted m vote id =
    if is_leading eq cmp voted m vote id then (if vote.committed then Leader else Candidate)
    else (if is_voter_of eq m.configs id then Follower else Learner)

-- an id with its node, if there is one
abbrev pub with_node : {K N : Type 0} → K → Option N → Option (K × N)
with_node id None = None
with_node id (Some node) = Some (id, node)

-- an id that may be absent with the node that a membership has there
abbrev pub known_node : {K N : Type 0} → (K → K → Ordering) → MemberList K N → Option K
    → Option (K × N)
known_node cmp m None = None
known_node cmp m (Some id) = with_node id (node_at cmp m.nodes id)

-- the node that a committed vote is for, if the membership has it
abbrev pub known_leader : {K N L : Type 0} → (K → K → Ordering) → (L → Option K) → MemberList K N
    → VoteIn L → Option (K × N)
known_leader cmp voted m vote =
    if vote.committed then known_node cmp m (voted vote.leader_id) else None

-- a request is forwarded to an equal node with this id, or to no node
abbrev pub ForwardsTo : {K N : Type 0} → (N → N → Bool) → Option (K × N) → ForwardToLeader K N
    → Type 0
ForwardsTo same None to = (to.leader_id ≡ None) × (to.leader_node ≡ None)
ForwardsTo same (Some (id, node)) to =
    (to.leader_id ≡ Some id) × IsTrue (option_eq same (Some node) to.leader_node)
