-- What holds of the two memberships of a valid state.
use Rattle.std.specs.Prelude.{Bool, List, [], ◌∷◌}
use Rattle.std.specs.declared.cmp.Ordering.{Ordering}
use Rattle.raft_base.specs.LogId.{id_le}
use Rattle.raft_base.specs.LogIndex.{index_le}
use Rattle.raft_base.specs.declared.log_id.validate.Invalid.{Invalid}
use Rattle.raft_base.specs.declared.log_id.validate.Invalid.TheVariants.{MembershipLogId, MembershipIndex}
use Rattle.raft_members.specs.membership.Stored.{log_id_of}
use Rattle.raft_state.specs.membership_state.Memberships.{Memberships, index_at}

-- the committed membership is not above the effective one, by log id and by index; each relation
-- with the case of its breach
abbrev pub membership_relations : {C K N : Type 0} → (C → C → Ordering) → Memberships C K N
    → List (Bool × Invalid)
membership_relations cmp m =
    (id_le cmp (log_id_of m.committed) (log_id_of m.effective), MembershipLogId)
    ∷ (index_le (index_at m.committed) (index_at m.effective), MembershipIndex)
    ∷ []
