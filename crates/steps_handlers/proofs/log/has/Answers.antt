use Rattle.std.proofs.Common.{◌≡◌, ◌+◌, Some, false, nat_le, sym, arith, ◌∙◌}
use Rattle.std.proofs.lemmas.Bool.Decides.{nat_tests}
use Rattle.steps_handlers.proofs.lemmas.RunLemmas.{has_at_end}
use Rattle.raft_state.proofs.lemmas.log_id_list.ExtendLemmas.{is_key_list}
use Rattle.raft_state.proofs.lemmas.log_id_list.FrontLemmas.{from_first}
use Rattle.raft_state.specs.log_id_list.FullLog.{first_index, full_log}
use Rattle.raft_state.specs.log_id_list.LogReads.{last_id}
use Rattle.steps_handlers.proofs.log.has.Goals as goal

pub returns-in-Some : goal.returns-in-Some
returns-in-Some g c =
    let s = c.args.state.now in
    let ks = s.log_ids in
    let last = c.in-Some.last.now in
    let canonical = rw c.key_log_ids-keys.ensures.keys at c.key_log_ids-keys.ensures.canonical in
    let row = from_first g.C.Ord.cmp ks (is_key_list g.C.Ord.cmp ks canonical) in
    let ends : last_id (full_log ks) ≡ Some last = sym (rw c.in-Some.is at c.last_log_id.ensures) in
    let kept : nat_le (c.args.log_id.index + 1) s.purged_next ≡ false = grind (arith, nat_tests) in
    c.eq.ensures ∙ has_at_end g.C.PartialEq.eq s (first_index (full_log ks)) last c.args.log_id row ends c.if-last-log_id.true kept
