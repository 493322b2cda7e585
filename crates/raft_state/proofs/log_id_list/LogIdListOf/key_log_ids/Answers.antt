use Rattle.raft_state.proofs.lemmas.log_id_list.ExtendLemmas.{is_key_list}
use Rattle.raft_state.proofs.lemmas.log_id_list.ListLemmas.{few_keys}
use Rattle.raft_state.proofs.log_id_list.LogIdListOf.key_log_ids.Goals as goal

pub returns-clause-canonical : goal.returns-clause-canonical
returns-clause-canonical g c = rw c.deref.ensures.value c.self.invariant

pub returns-clause-few : goal.returns-clause-few
returns-clause-few g c = rw (c.deref.ensures.value, ← c.self.view_is)
    (few_keys g.C.Ord.cmp g.C.PartialEq.eq g.met.C.Ord.total g.met.C.Ord.matches_eq g.met.C.Eq.laws c.self.inside.key_log_ids.items
    (is_key_list g.C.Ord.cmp c.self.inside.key_log_ids.items c.self.invariant))
