use Rattle.raft_members.proofs.lemmas.quorum.MeetingLemmas.{majority_member}
use Rattle.raft_members.proofs.quorum.laws.majority_has_voter.Goals as goal

pub returns : goal.returns
returns g c = majority_member g.met.ID.Eq.laws
