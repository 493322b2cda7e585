use Rattle.trace_judge.specs.Inner.Table.{Learns}
use Rattle.trace_judge.proofs.names.Names.add_lists.Given as goal

abbrev pub invariant-loop-list : goal.invariant-loop-list
invariant-loop-list l = Learns l.fn.self l.self
