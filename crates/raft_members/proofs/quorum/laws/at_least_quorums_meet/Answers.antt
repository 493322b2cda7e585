use Rattle.raft_members.proofs.lemmas.quorum.AtLeastLemmas.{at_least_meet}
use Rattle.raft_members.proofs.quorum.laws.at_least_quorums_meet.Goals as goal

pub returns : goal.returns
returns g c = at_least_meet g.met.ID.Eq.laws
