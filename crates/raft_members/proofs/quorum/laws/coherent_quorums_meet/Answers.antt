use Rattle.raft_members.proofs.lemmas.quorum.MeetingLemmas.{coherent_meet}
use Rattle.raft_members.proofs.quorum.laws.coherent_quorums_meet.Goals as goal

pub returns : goal.returns
returns g c = coherent_meet g.met.ID.Eq.laws
