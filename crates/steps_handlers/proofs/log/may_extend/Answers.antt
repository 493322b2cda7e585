use Rattle.std.proofs.Common.{◌≡◌, sym, ◌∙◌}
use Rattle.std.proofs.Math.Bool.{and-true}
use Rattle.steps_handlers.proofs.lemmas.RunLemmas.{plain_members}
use Rattle.steps_handlers.specs.Entries.{are_in_order}
use Rattle.raft_members.specs.membership.Stored.{log_id_of}
use Rattle.raft_state.specs.log_id_list.FullLog.{full_log}
use Rattle.raft_state.specs.log_id_list.LogReads.{last_id}
use Rattle.steps_handlers.proofs.log.may_extend.Goals as goal

pub returns-then-plain : goal.returns-then-plain
returns-then-plain g c =
    let s = c.args.state.now in
    let last : c.copied.result ≡ last_id (full_log s.log_ids) = c.copied.ensures ∙ c.last_log_id.ensures in
    let members = plain_members g.C.PartialEq.eq g.met.C.Eq.laws g.C.Ord.cmp (log_id_of s.membership_state.effective) c.args.new.now
    (c.requires c.if-plain.true) in
    rw members (rw last at c.are_in_order.ensures ∙ sym (and-true (are_in_order g.C.Ord.cmp (last_id (full_log s.log_ids)) c.args.new.now)))
