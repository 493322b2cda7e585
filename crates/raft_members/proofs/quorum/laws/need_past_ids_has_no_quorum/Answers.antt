use Rattle.raft_members.proofs.lemmas.quorum.AtLeastLemmas.{past_ids}
use Rattle.raft_members.proofs.quorum.laws.need_past_ids_has_no_quorum.Goals as goal

pub returns : goal.returns
returns g c = past_ids g.ID.PartialEq.eq
