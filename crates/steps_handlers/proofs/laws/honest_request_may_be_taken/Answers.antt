use Rattle.steps_handlers.proofs.lemmas.HonestLemmas.{taken}
use Rattle.raft_state.proofs.lemmas.log_id_list.ExtendLemmas.{is_key_list}
use Rattle.steps_handlers.proofs.laws.honest_request_may_be_taken.Goals as goal

pub returns : goal.returns
returns g c sound honest =
    let s = c.args.state.now in
    let canonical = rw c.key_log_ids-keys.ensures.keys at c.key_log_ids-keys.ensures.canonical in
    let are = is_key_list g.C.Ord.cmp s.log_ids canonical in
    taken g.C.Ord.cmp g.C.PartialEq.eq g.met.C.Ord.total g.met.C.Ord.matches_eq g.met.C.Eq.laws s are sound honest.keys honest.leader
    c.args.request.now.prev c.args.request.now.entries.items c.args.request.now.committed honest.piece
