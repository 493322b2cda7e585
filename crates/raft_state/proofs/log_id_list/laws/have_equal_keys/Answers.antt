use Rattle.std.proofs.Common.{◌∙◌}
use Rattle.raft_state.proofs.lemmas.log_id_list.ExtendLemmas.{is_key_list}
use Rattle.raft_state.proofs.lemmas.log_id_list.ListLemmas.{keys_decide}
use Rattle.raft_state.proofs.log_id_list.laws.have_equal_keys.Goals as goal

pub returns-clause-logs : goal.returns-clause-logs
returns-clause-logs g c =
    let first = is_key_list g.C.Ord.cmp c.args.a.now (rw c.key_log_ids.ensures.keys at c.key_log_ids.ensures.canonical) in
    let second = is_key_list g.C.Ord.cmp c.args.b.now (rw c.key_log_ids-2.ensures.keys at c.key_log_ids-2.ensures.canonical) in
    c.eq.ensures ∙ rw (c.key_log_ids.ensures.keys, c.key_log_ids-2.ensures.keys)
    (keys_decide g.C.Ord.cmp g.C.PartialEq.eq g.met.C.Ord.total g.met.C.Ord.matches_eq g.met.C.Eq.laws c.args.a.now c.args.b.now first
    second)
