-- When a change is refused.
use Rattle.std.specs.Prelude.{◌≡◌, Bool, true, false, Some}
use Rattle.std.specs.declared.cmp.Ordering.{Ordering}
use Rattle.raft_members.specs.membership.Members.{Members}
use Rattle.raft_members.specs.membership.Valid.{has_empty_config, FirstWithoutNode}
use Rattle.raft_members.specs.declared.error.ChangeMembershipErrorOf.{ChangeMembershipErrorOf}
use Rattle.raft_members.specs.declared.error.ChangeMembershipErrorOf.TheVariants.{InProgress, EmptyMembership, LearnerNotFound, OutOfMemory}

-- why these members are refused: a config is empty, or otherwise the first voter without a node; an
-- allocation failure may come in place of either
abbrev pub IsRefusal : {C K N : Type 0} → (K → K → Bool) → (K → K → Ordering) → Members K N
    → ChangeMembershipErrorOf C K → Type 0
IsRefusal eq cmp w (InProgress _) = ⊥
IsRefusal eq cmp w (EmptyMembership _) = has_empty_config w.configs ≡ true
IsRefusal eq cmp w (LearnerNotFound e) =
    (has_empty_config w.configs ≡ false) × FirstWithoutNode eq cmp w (Some e.node_id)
IsRefusal eq cmp w OutOfMemory = Unit {0}
