-- The learners that an iterator over them has still to return. No other file reads its private
-- fields.
use Rattle.std.specs.Prelude.{Bool, List, map, not, ◌&&◌, is_some}
use Rattle.std.specs.List.{filter}
use Rattle.std.specs.Map.{keys_of}
use Rattle.std.specs.declared.cmp.Ordering.{Ordering}
use Rattle.raft_members.specs.quorum.Majority.{is_voter_of}
use Rattle.raft_members.specs.membership.Members.{MemberList, node_at}
use Rattle.raft_members.specs.declared.membership.learner_ids.LearnerIds.{LearnerIds}

-- the ids that are in no config
abbrev pub learners_among : {K : Type 0} → (K → K → Bool) → List (List K) → List K → List K
learners_among eq configs ids = filter (λ id. not (is_voter_of eq configs id)) ids

-- the learners of a membership, in order
abbrev pub learners_of : {K N : Type 0} → (K → K → Bool) → MemberList K N → List K
learners_of eq m = learners_among eq m.configs (keys_of m.nodes)

-- an id is a learner of a membership if it has a node and is in no config
abbrev pub is_learner : {K N : Type 0} → (K → K → Bool) → (K → K → Ordering) → MemberList K N → K
    → Bool
is_learner eq cmp m id = is_some (node_at cmp m.nodes id) && not (is_voter_of eq m.configs id)

-- the ids of the remaining nodes that are in no config
abbrev pub learners_ahead : {K N : Type 0} → (K → K → Bool) → LearnerIds K N → List K
learners_ahead eq s = learners_among eq (map (λ c. c.keys) s.configs.now) s.nodes
