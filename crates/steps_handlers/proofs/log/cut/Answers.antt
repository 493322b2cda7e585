use Rattle.std.proofs.Common.{sym, ◌∙◌}
use Rattle.raft_state.proofs.lemmas.log_id_list.ExtendLemmas.{is_key_list}
use Rattle.raft_state.proofs.lemmas.log_id_list.FrontLemmas.{from_first}
use Rattle.raft_state.specs.log_id_list.FullLog.{first_index, full_log}
use Rattle.steps_handlers.proofs.lemmas.CutLemmas.{ends_cut}
use Rattle.steps_handlers.proofs.log.cut.Goals as goal

pub returns-then-ends_before-clause-cut : goal.returns-then-ends_before-clause-cut
returns-then-ends_before-clause-cut g c =
    let ks = c.args.state.now.log_ids in
    let canonical = rw c.key_log_ids-keys.ensures.keys at c.key_log_ids-keys.ensures.canonical in
    let row = from_first g.C.Ord.cmp ks (is_key_list g.C.Ord.cmp ks canonical) in
    ends_cut _ (first_index (full_log ks)) c.args.since c.args.state.now row (sym c.ends_before.ensures ∙ c.if-ends_before.true)
