use Rattle.raft_state.proofs.lemmas.log_id_list.ExtendLemmas.{is_key_list}
use Rattle.raft_state.proofs.lemmas.log_id_list.OrderLemmas.{consecutive, are_found, never_fall, never_fall_by_index, none_above_last}
use Rattle.raft_state.proofs.log_id_list.laws.log_is_in_order.Goals as goal

pub returns-clause-indexes : goal.returns-clause-indexes
returns-clause-indexes g c n id e =
    let keys = is_key_list g.C.Ord.cmp c.args.list.now (rw c.key_log_ids-keys.ensures.keys at c.key_log_ids-keys.ensures.canonical) in
    consecutive g.C.Ord.cmp c.args.list.now keys n id e

pub returns-clause-leaders : goal.returns-clause-leaders
returns-clause-leaders g c m n a b lt e f =
    let keys = is_key_list g.C.Ord.cmp c.args.list.now (rw c.key_log_ids-keys.ensures.keys at c.key_log_ids-keys.ensures.canonical) in
    never_fall g.C.Ord.cmp g.met.C.Ord.total c.args.list.now keys m n a b lt e f

pub returns-clause-found : goal.returns-clause-found
returns-clause-found g c n id e =
    let keys = is_key_list g.C.Ord.cmp c.args.list.now (rw c.key_log_ids-keys.ensures.keys at c.key_log_ids-keys.ensures.canonical) in
    are_found g.C.Ord.cmp c.args.list.now keys n id e

pub returns-clause-leaders_by_index : goal.returns-clause-leaders_by_index
returns-clause-leaders_by_index g c i j a b lt e f =
    let keys = is_key_list g.C.Ord.cmp c.args.list.now (rw c.key_log_ids-keys.ensures.keys at c.key_log_ids-keys.ensures.canonical) in
    never_fall_by_index g.C.Ord.cmp g.met.C.Ord.total c.args.list.now keys i j a b lt e f

pub returns-clause-last : goal.returns-clause-last
returns-clause-last g c i =
    let keys = is_key_list g.C.Ord.cmp c.args.list.now (rw c.key_log_ids-keys.ensures.keys at c.key_log_ids-keys.ensures.canonical) in
    none_above_last g.C.Ord.cmp g.met.C.Ord.total c.args.list.now keys i
