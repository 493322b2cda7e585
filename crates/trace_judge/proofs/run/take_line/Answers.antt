use Rattle.trace_judge.specs.Numbers.{number_tests}
use Rattle.trace_judge.proofs.lemmas.ListLemmas.{judges_none, judges_start, judges_taken}
use Rattle.trace_judge.proofs.run.take_line.Goals as goal

pub returns-in-Ok-clause-taken : goal.returns-in-Ok-clause-taken
returns-in-Ok-clause-taken c =
    judges_taken number_tests c.args.first_line.now c.args.line.now c.args.judge.now c.take.new.self c.in-Ok.ensures.taken

pub returns-then-branch-clause-taken : goal.returns-then-branch-clause-taken
returns-then-branch-clause-taken c =
    judges_start number_tests c.args.first_line.now c.args.line.now c.args.judge.now c.take.new.self
    (c.in_ok-say_one_start-in-Err-Malformed.ensures c.if-branch.true)
    ((rw c.in-Err-Malformed.field-0-is at c.in-Err-Malformed.ensures.broken) tt)

pub returns-else-branch-clause-broken : goal.returns-else-branch-clause-broken
returns-else-branch-clause-broken c = λ _.
    judges_none number_tests c.args.first_line.now c.args.line.now c.args.judge.now c.take.new.self
    ((rw c.in-Err-Malformed.field-0-is at c.in-Err-Malformed.ensures.broken) tt)

pub returns-in-Err-clause-broken : goal.returns-in-Err-clause-broken
returns-in-Err-clause-broken c = λ broken.
    judges_none number_tests c.args.first_line.now c.args.line.now c.args.judge.now c.take.new.self (c.in-Err.ensures.broken broken)
