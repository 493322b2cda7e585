use Rattle.std.proofs.Common.{◌∙◌, ap}
use Rattle.std.proofs.lemmas.List.{take_all}
use Rattle.raft_members.specs.quorum.QuorumSize.{greatest_by}
use Rattle.raft_members.proofs.quorum.joint_impl.least_of_each.Goals as goal

pub returns-clause-exact : goal.returns-clause-exact
returns-clause-exact g c size says = c.loop-child.invariant.0 size says
    ∙ ap (greatest_by size) (take_all c.loop-child.child-index c.args.children.now c.loop-child-test.false)
