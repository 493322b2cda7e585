use Rattle.std.proofs.Common.{rules}
use Rattle.raft_members.proofs.quorum.joint_impl.JointVecQuorumSet.least_quorum_size.Goals as goal

pub returns : goal.returns
returns g c =
    let least = c.least_of_each.ensures.least (λ child n answered. search rules) in
    record { least = rw (c.deref.ensures.value, c.children.ensures) at least }
