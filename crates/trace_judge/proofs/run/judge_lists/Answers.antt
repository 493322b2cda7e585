use Rattle.std.proofs.lemmas.Result.{IfOk-weaker}
use Rattle.trace_judge.specs.Numbers.{number_tests}
use Rattle.trace_judge.proofs.lemmas.ListLemmas.{have_safe_merge}
use Rattle.trace_judge.proofs.run.judge_lists.Goals as goal

pub returns-in-Ok-take_lines-clause-safe : goal.returns-in-Ok-take_lines-clause-safe
returns-in-Ok-take_lines-clause-safe g c =
    let safe =
    have_safe_merge number_tests (λ w m t u e. e) c.traces_are_executions.ensures c.applied_traces_are_executions.ensures
    c.args.lists.now c.begin.new.lists c.take_lines.new.lists
    c.in-Ok.begun.0.items c.in-Ok.begun.1 c.take_lines.new.judge c.in-Ok.ensures.begins
    (rw c.deref.ensures.value at c.in-Ok-take_lines.ensures.judged) in
    IfOk-weaker c.push_verdict.result _ _ (λ status ended low waiting all. safe waiting all) c.push_verdict.ensures.ended

pub returns-in-Ok-take_lines-clause-known : goal.returns-in-Ok-take_lines-clause-known
returns-in-Ok-take_lines-clause-known g c =
    IfOk-weaker c.push_verdict.result _ _
    (λ status ended low all known. c.in-Ok-take_lines.ensures.known all (c.in-Ok.ensures.known all known))
    c.push_verdict.ensures.ended
