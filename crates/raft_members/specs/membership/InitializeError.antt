-- When an error is a copy of the error of a refused start of a cluster.
use Rattle.std.specs.Prelude.{◌≡◌, Bool, true, false, IsTrue}
use Rattle.raft_members.specs.membership.Members.{same_members}
use Rattle.raft_members.specs.declared.membership.initialize_error.InitializeErrorIn.{InitializeErrorIn}
use Rattle.raft_members.specs.declared.membership.initialize_error.InitializeErrorIn.TheVariants.{NotAllowed, NotInMembers}

-- the same error: of the same log id and vote, or of the same node and an equal membership
abbrev pub IsCopyOf : {L C K N : Type 0} → (K → K → Bool) → (N → N → Bool)
    → InitializeErrorIn L C K N → InitializeErrorIn L C K N → Type 0
IsCopyOf eq same (NotAllowed refused) copy = copy ≡ NotAllowed refused
IsCopyOf eq same (NotInMembers refused) (NotAllowed copy) = ⊥
IsCopyOf eq same (NotInMembers refused) (NotInMembers copy) =
    (copy.node_id ≡ refused.node_id)
    × IsTrue (same_members eq same refused.membership copy.membership)

-- the error is that the node belongs to a cluster, and contains no membership
abbrev pub is_not_allowed : {L C K N : Type 0} → InitializeErrorIn L C K N → Bool
is_not_allowed (NotAllowed refused) = true
is_not_allowed (NotInMembers refused) = false
