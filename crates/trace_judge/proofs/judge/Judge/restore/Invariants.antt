use Rattle.trace_judge.specs.Inner.Taken.{Stays}
use Rattle.trace_judge.specs.Numbers.{number_tests}
use Rattle.trace_judge.proofs.judge.Judge.restore.Given as goal

-- no event has been filled in
abbrev pub invariant-loop : goal.invariant-loop
invariant-loop l = Stays number_tests l.fn.self l.self
