use Rattle.std.proofs.Common.{Some}
use Rattle.std.proofs.lemmas.Result.{on_ok_weaker}
use Rattle.serde_json.specs.View.{view}
use Rattle.trace_checker.specs.Checker.{event_of as trace_event}
use Rattle.trace_judge.specs.Inner.Table.{numbering}
use Rattle.trace_judge.specs.Inner.Taken.{Fits}
use Rattle.trace_judge.specs.Numbers.{number_tests}
use Rattle.trace_judge.proofs.judge.Judge.take_value.Goals as goal

pub returns-in-Some-clause-taken : goal.returns-in-Some-clause-taken
returns-in-Some-clause-taken c =
    let d = view c.args.value.now in
    let e = trace_event c.in_ok-event.event in
    let fits : Fits number_tests d e c.args.self.now =
    λ es keeps. (c.in_ok-test_index.ensures es keeps, c.in_ok-test_last_term.ensures es keeps, c.in_ok-event.ensures.entries es keeps) in
    on_ok_weaker c.take_membership.result (λ holding.
    let next = holding (numbering c.args.self.now.names) d (rw c.in-Some.is at c.in_ok-content.ensures) in
    (e, (Some next.0, c.in_ok-event.ensures.says, fits, next.1, next.2))) c.take_membership.ensures.taken

pub returns-clause-taken : goal.returns-clause-taken
returns-clause-taken c =
    on_ok_weaker c.take_counted.result
    (λ takes. takes c.in_ok-event.ensures.says
    (λ es keeps. (c.in_ok-test_index.ensures es keeps, c.in_ok-test_last_term.ensures es keeps, c.in_ok-event.ensures.entries es keeps))
    (rw c.in-None.is at c.in_ok-content.ensures)) c.take_counted.ensures.taken
