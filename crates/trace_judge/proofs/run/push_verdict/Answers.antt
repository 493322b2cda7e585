use Rattle.std.proofs.Common.{arith}
use Rattle.std.proofs.lemmas.Result.{IfOk-weaker}
use Rattle.trace_judge.proofs.run.push_verdict.Goals as goal

pub returns-then-not-are_ended-clause-ended : goal.returns-then-not-are_ended-clause-ended
returns-then-not-are_ended-clause-ended g c =
    IfOk-weaker c.push_waiting.result _ _ (λ status above zero. absurd (omega (arith, above, zero))) c.push_waiting.ensures

pub returns-then-not-are_ended-clause-waits : goal.returns-then-not-are_ended-clause-waits
returns-then-not-are_ended-clause-waits g c =
    IfOk-weaker c.push_waiting.result _ _
    (λ status above one all. let ended = c.are_ended.ensures.if_ended all in absurd (cc)) c.push_waiting.ensures
