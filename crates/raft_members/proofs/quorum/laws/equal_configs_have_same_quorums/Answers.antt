use Rattle.raft_members.proofs.lemmas.quorum.MeetingLemmas.{equal_configs}
use Rattle.raft_members.proofs.quorum.laws.equal_configs_have_same_quorums.Goals as goal

pub returns : goal.returns
returns g c = equal_configs g.met.ID.Eq.laws
