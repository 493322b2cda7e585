use Rattle.trace_judge.specs.Inner.Judged.{JudgesSome}
use Rattle.trace_judge.specs.Input.{KeepKnown}
use Rattle.trace_judge.specs.Numbers.{number_tests}
use Rattle.trace_judge.proofs.run.take_lines.Given as goal

-- the judge has judged the lines by which the lists have grown
abbrev pub invariant-loop : goal.invariant-loop
invariant-loop g l =
    JudgesSome number_tests l.first_line l.fn.lists l.lists l.fn.judge l.judge
    × KeepKnown g.B.Read.remaining l.fn.lists l.lists
