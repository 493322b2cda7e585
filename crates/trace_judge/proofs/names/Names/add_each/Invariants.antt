use Rattle.trace_judge.specs.Inner.Table.{Learns}
use Rattle.trace_judge.proofs.names.Names.add_each.Given as goal

abbrev pub invariant-loop-value : goal.invariant-loop-value
invariant-loop-value l = Learns l.fn.self l.self
