use Rattle.std.proofs.Common.{◌≡◌, drop}
use Rattle.std.specs.List.{IsDistinct, list_all}
use Rattle.std.specs.Set.{is_member}
use Rattle.raft_members.proofs.quorum.joint_impl.is_quorum_of_each.Given as goal

abbrev pub invariant-loop-child : goal.invariant-loop-child
invariant-loop-child g l = IsDistinct g.ID.PartialEq.eq l.ids
    → list_all (λ c. g.QS.QuorumSet.has_quorum c (is_member g.ID.PartialEq.eq l.ids)) (drop l.child-index l.children)
    ≡ list_all (λ c. g.QS.QuorumSet.has_quorum c (is_member g.ID.PartialEq.eq l.ids)) l.children
