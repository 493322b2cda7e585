use Rattle.std.proofs.Common.{◌∙◌}
use Rattle.raft_state.proofs.lemmas.log_id_list.CutLemmas.{first_is}
use Rattle.raft_state.proofs.lemmas.log_id_list.ExtendLemmas.{is_key_list}
use Rattle.raft_state.proofs.log_id_list.LogIdListOf.first.Goals as goal

pub returns : goal.returns
returns g c = c.first.ensures.value ∙ rw (c.deref.ensures.value, ← c.self.view_is)
    (first_is g.C.Ord.cmp c.self.inside.key_log_ids.items (is_key_list g.C.Ord.cmp c.self.inside.key_log_ids.items c.self.invariant))
