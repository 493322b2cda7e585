use Rattle.raft_members.proofs.lemmas.quorum.MeetingLemmas.{quorums_meet}
use Rattle.raft_members.proofs.quorum.laws.quorums_meet.Goals as goal

pub returns : goal.returns
returns g c = quorums_meet g.met.ID.Eq.laws
