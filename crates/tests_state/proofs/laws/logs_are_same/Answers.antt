use Rattle.std.proofs.Common.{sym, ◌∙◌}
use Rattle.raft_state.specs.log_id_list.FullLog.{full_log}
use Rattle.tests_state.proofs.laws.logs_are_same.Goals as goal

pub returns-clause-at_index : goal.returns-clause-at_index
returns-clause-at_index g c told index = c.same_logs_read_same.ensures.at_index index (full_log c.args.one.now) (full_log c.args.other.now)
    (sym c.have_equal_keys.ensures.logs ∙ told)

pub returns-clause-first : goal.returns-clause-first
returns-clause-first g c told = c.same_logs_read_same.ensures.first (full_log c.args.one.now) (full_log c.args.other.now)
    (sym c.have_equal_keys.ensures.logs ∙ told)

pub returns-clause-last : goal.returns-clause-last
returns-clause-last g c told = c.same_logs_read_same.ensures.last (full_log c.args.one.now) (full_log c.args.other.now)
    (sym c.have_equal_keys.ensures.logs ∙ told)
