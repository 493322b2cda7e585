use Rattle.std.proofs.Common.{◌∙◌}
use Rattle.raft_members.proofs.quorum.quorum_set_impl.has_in_order.Goals as goal

pub returns : goal.returns
returns g c up = c.has.ensures ∙ c.part_with.ensures up
