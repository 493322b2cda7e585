use Rattle.std.specs.List.{AllWithin}
use Rattle.trace_judge.specs.Input.{IsReadToEnd}
use Rattle.trace_judge.proofs.run.are_ended.Given as goal

-- the lists so far were read to their ends
abbrev pub invariant-loop-list : goal.invariant-loop-list
invariant-loop-list g l = AllWithin IsReadToEnd l.lists 0 l.list-index
