use Rattle.std.proofs.Common.{◌≡◌, take}
use Rattle.std.specs.List.{list_any}
use Rattle.std.specs.Set.{is_member}
use Rattle.raft_members.proofs.quorum.joint_impl.ids_of_each.Given as goal

abbrev pub invariant-loop-child : goal.invariant-loop-child
invariant-loop-child g l = (x : g.row.ID.Denot)
    → is_member g.ID.PartialEq.eq l.all.items x ≡ list_any (λ c. g.QS.QuorumSet.is_voter c x) (take l.child-index l.children)
