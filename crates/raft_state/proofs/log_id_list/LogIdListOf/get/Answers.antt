use Rattle.raft_state.specs.log_id_list.FullLog.{full_log}
use Rattle.raft_state.proofs.lemmas.log_id_list.CutLemmas.{first_full, last_full, next_of_last}
use Rattle.raft_state.proofs.lemmas.log_id_list.FullLogLemmas.{found_within}
use Rattle.raft_state.proofs.lemmas.log_id_list.ExtendLemmas.{is_key_list}
use Rattle.raft_state.proofs.log_id_list.LogIdListOf.get.Goals as goal

pub returns-clause-found : goal.returns-clause-found
returns-clause-found g c =
    let keys = c.self.inside.key_log_ids.items in
    rw (
      c.get.ensures,
      c.deref.ensures.value,
      ← c.self.view_is,
      first_full g.C.Ord.cmp keys
          (is_key_list g.C.Ord.cmp c.self.inside.key_log_ids.items c.self.invariant),
      next_of_last (full_log keys) keys
          (last_full g.C.Ord.cmp keys (is_key_list g.C.Ord.cmp c.self.inside.key_log_ids.items c.self.invariant)),
    )
    (found_within g.C.Ord.cmp keys c.args.index (is_key_list g.C.Ord.cmp c.self.inside.key_log_ids.items c.self.invariant))
