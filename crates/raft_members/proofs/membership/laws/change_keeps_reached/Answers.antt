use Rattle.raft_members.proofs.lemmas.membership.SaysLemmas.{change_keeps_reached}
use Rattle.raft_members.proofs.membership.laws.change_keeps_reached.Goals as goal

pub returns : goal.returns
returns g c = change_keeps_reached g.met.NID.Eq.laws g.NID.Ord.cmp
