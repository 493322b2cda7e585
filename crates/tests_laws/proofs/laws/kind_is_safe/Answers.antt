use Rattle.std.proofs.Common.{sym, ◌∙◌}
use Rattle.safety_laws.specs.Trace.{campaign_terms}
use Rattle.tests_laws.proofs.laws.kind_is_safe.Goals as goal

pub returns-clause-traces : goal.returns-clause-traces
returns-clause-traces g c = λ same k exact es ranks allowed.
    (c.traces_are_executions.ensures k exact es
    (λ t u in_t in_u e.
    (c.orders_have_ranks.ensures same (campaign_terms es)).one t u in_t in_u
    (sym (ranks t) ∙ e ∙ ranks u))
    allowed).applied
