use Rattle.trace_judge.specs.Inner.Taken.{FillsApplied}
use Rattle.trace_judge.specs.Numbers.{number_tests}
use Rattle.trace_judge.proofs.judge.Judge.commit.Given as goal

-- events may have been filled in
abbrev pub invariant-loop-number : goal.invariant-loop-number
invariant-loop-number l = FillsApplied number_tests l.server l.len l.fn.self l.self
