use Rattle.std.proofs.Common.{◌∙◌}
use Rattle.raft_state.proofs.lemmas.log_id_list.ListLemmas.{ends_make_all}
use Rattle.raft_state.proofs.log_id_list.keys.extend_by_ends.Goals as goal

pub returns-in_ok-append-2-clause-ok : goal.returns-in_ok-append-2-clause-ok
returns-in_ok-append-2-clause-ok g c =
    c.in_ok-append-2.ensures.ok ∙ rw (
      c.in_ok-append.ensures.ok,
      c.reserve.ensures.items,
      c.get_log_id.ensures,
      c.get_log_id-then-ids-gt1.ensures,
    )
    (ends_make_all g.C.Ord.cmp g.C.PartialEq.eq g.met.C.Ord.total g.met.C.Ord.matches_eq g.met.C.Eq.laws g.LID.RaftLogId.id_of
    c.args.keys.now.items c.args.ids.now c.in-Some-Some.first.now c.in-Some-Some.last.now c.if-ids-gt1.true
    c.in-Some-Some.ensures.value c.in-Some-Some.ensures'.value c.requires.follow c.requires.one_leader)
