use Rattle.std.proofs.Common.{◌∙◌}
use Rattle.raft_state.proofs.lemmas.log_id_list.EndsLemmas.{ends_by_place}
use Rattle.raft_state.proofs.log_id_list.keys.share_leader.Goals as goal

pub returns-in-Some-Some : goal.returns-in-Some-Some
returns-in-Some-Some g c =
    c.eq.ensures ∙ rw (c.get_log_id.ensures, c.get_log_id-in-Some-Some.ensures)
    (ends_by_place g.C.PartialEq.eq g.LID.RaftLogId.id_of c.args.ids.now c.in-Some-Some.first.now c.in-Some-Some.last.now
    c.in-Some-Some.ensures.value c.in-Some-Some.ensures'.value)
