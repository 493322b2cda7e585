use Rattle.std.proofs.Common.{◌≡◌, true, sym, ◌∙◌}
use Rattle.steps_handlers.specs.Entries.{are_in_order}
use Rattle.raft_state.specs.log_id_list.FullLog.{full_log}
use Rattle.raft_state.specs.log_id_list.LogReads.{last_id}
use Rattle.steps_handlers.proofs.log.refusal.Goals as goal

pub returns-then-are_successors : goal.returns-then-are_successors
returns-then-are_successors g c =
    let last : c.copied.result ≡ last_id (full_log c.args.state.now.log_ids) = c.copied.ensures ∙ c.last_log_id.ensures in
    let order : are_in_order g.C.Ord.cmp (last_id (full_log c.args.state.now.log_ids)) c.args.new.now ≡ true =
    rw last at (sym c.are_successors.ensures ∙ c.if-are_successors.true) in
    rw order at c.requires

pub returns-else-are_successors : goal.returns-else-are_successors
returns-else-are_successors g c =
    let last : c.copied.result ≡ last_id (full_log c.args.state.now.log_ids) = c.copied.ensures ∙ c.last_log_id.ensures in
    rw last at (sym c.are_successors.ensures ∙ c.if-are_successors.false)
