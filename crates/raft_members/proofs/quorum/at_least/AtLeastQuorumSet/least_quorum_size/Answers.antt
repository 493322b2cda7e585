use Rattle.raft_members.proofs.lemmas.quorum.LeastLemmas.{at_least_least}
use Rattle.raft_members.proofs.quorum.at_least.AtLeastQuorumSet.least_quorum_size.Goals as goal

pub returns-clause-least : goal.returns-clause-least
returns-clause-least g c = at_least_least g.met.ID.Eq.laws c.args.self.now.ids.items c.args.self.now.need
