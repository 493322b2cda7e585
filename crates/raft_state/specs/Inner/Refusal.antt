-- The error of a change of a membership alone, for a node's memberships.
use Rattle.raft_members.specs.declared.error.ChangeMembershipErrorOf.{ChangeMembershipErrorOf}
use Rattle.raft_members.specs.declared.error.ChangeMembershipErrorOf.TheVariants.{InProgress, EmptyMembership, LearnerNotFound, OutOfMemory}

-- the same error for other leader ids; a change of a membership alone is never in progress
abbrev pub refusal_of : {B C K : Type 0} → ChangeMembershipErrorOf B K → ChangeMembershipErrorOf C K
refusal_of (InProgress _) = OutOfMemory
refusal_of (EmptyMembership e) = EmptyMembership e
refusal_of (LearnerNotFound e) = LearnerNotFound e
refusal_of OutOfMemory = OutOfMemory
