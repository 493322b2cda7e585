use Rattle.std.proofs.Common.{sym, ◌∙◌}
use Rattle.raft_state.proofs.lemmas.log_id_list.LastTwoLemmas.{last_two_of_full, two_keys_of_last}
use Rattle.raft_state.proofs.lemmas.log_id_list.ExtendLemmas.{is_key_list}
use Rattle.raft_state.proofs.log_id_list.LogIdListOf.by_last_leader.Goals as goal

pub returns-clause-two_keys : goal.returns-clause-two_keys
returns-clause-two_keys g c =
    rw (c.by_last_leader.ensures, c.deref.ensures.value, ← c.self.view_is)
    (two_keys_of_last g.C.PartialEq.eq c.self.inside.key_log_ids.items
    ∙ sym (last_two_of_full g.C.PartialEq.eq g.C.Ord.cmp c.self.inside.key_log_ids.items
    (is_key_list g.C.Ord.cmp c.self.inside.key_log_ids.items c.self.invariant)))
