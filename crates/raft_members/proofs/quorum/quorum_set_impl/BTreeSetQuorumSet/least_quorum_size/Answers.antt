use Rattle.raft_members.proofs.lemmas.quorum.LeastLemmas.{majority_least}
use Rattle.raft_members.proofs.quorum.quorum_set_impl.BTreeSetQuorumSet.least_quorum_size.Goals as goal

pub returns-clause-least : goal.returns-clause-least
returns-clause-least g c = rw c.len.ensures.len (majority_least g.met.ID.Eq.laws c.args.self.now.keys)
