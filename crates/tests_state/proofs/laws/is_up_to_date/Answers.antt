use Rattle.std.proofs.Common.{ap, sym, ◌∙◌}
use Rattle.raft_base.specs.LogId.{id_le}
use Rattle.raft_base.specs.LogIdLawful.{optional-log_id_cmp-total}
use Rattle.raft_progress.proofs.lemmas.OrderLemmas.{AtMost-trans}
use Rattle.raft_state.specs.log_id_list.FullLog.{full_log}
use Rattle.raft_state.specs.log_id_list.LogReads.{id_at, last_id}
use Rattle.tests_state.proofs.laws.is_up_to_date.Goals as goal

pub returns : goal.returns
returns g c told index =
    let log = full_log c.args.own.now in
    let last_is = c.copied.ensures ∙ c.last.ensures in
    AtMost-trans (optional-log_id_cmp-total g.met.C.Ord.total) (id_at log index) (last_id log) c.args.last
    (c.log_is_in_order.ensures.last index) (ap (λ o. id_le g.C.Ord.cmp o c.args.last) (sym last_is) ∙ sym c.log_id_at_most.ensures ∙ told)
