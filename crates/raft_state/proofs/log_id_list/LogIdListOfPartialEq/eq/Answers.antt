use Rattle.std.proofs.Common.{◌∙◌}
use Rattle.raft_state.proofs.lemmas.log_id_list.ListLemmas.{keys_decide}
use Rattle.raft_state.proofs.lemmas.log_id_list.ExtendLemmas.{is_key_list}
use Rattle.raft_state.proofs.log_id_list.LogIdListOfPartialEq.eq.Goals as goal

pub returns : goal.returns
returns g c =
    c.eq.ensures ∙ rw (← c.self.view_is, ← c.other.view_is)
    (keys_decide g.C.Ord.cmp g.C.PartialEq.eq g.met.C.Ord.total g.met.C.Ord.matches_eq g.met.C.Eq.laws c.self.inside.key_log_ids.items
    c.other.inside.key_log_ids.items (is_key_list g.C.Ord.cmp c.self.inside.key_log_ids.items c.self.invariant)
    (is_key_list g.C.Ord.cmp c.other.inside.key_log_ids.items c.other.invariant))
