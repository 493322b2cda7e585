use Rattle.raft_state.proofs.lemmas.log_id_list.ExtendLemmas.{is_key_list}
use Rattle.raft_state.proofs.lemmas.log_id_list.ListLemmas.{purged_log_begins}
use Rattle.raft_state.proofs.log_id_list.laws.purged_log_begins.Goals as goal

pub returns : goal.returns
returns g c =
    let keys = is_key_list g.C.Ord.cmp c.args.list.now (rw c.key_log_ids-keys.ensures.keys at c.key_log_ids-keys.ensures.canonical) in
    purged_log_begins g.C.Ord.cmp g.C.PartialEq.eq g.met.C.Ord.total g.met.C.Ord.matches_eq g.met.C.Eq.laws c.args.list.now c.args.upto.now
    keys
