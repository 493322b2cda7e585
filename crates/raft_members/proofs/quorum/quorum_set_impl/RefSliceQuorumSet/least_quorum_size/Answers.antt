use Rattle.raft_members.proofs.lemmas.quorum.LeastLemmas.{majority_least}
use Rattle.raft_members.proofs.quorum.quorum_set_impl.RefSliceQuorumSet.least_quorum_size.Goals as goal

pub returns-clause-least : goal.returns-clause-least
returns-clause-least g c = majority_least g.met.ID.Eq.laws c.args.self.now.now
