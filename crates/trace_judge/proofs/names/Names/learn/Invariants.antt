use Rattle.trace_judge.specs.Inner.Table.{Learns}
use Rattle.trace_judge.proofs.names.Names.learn.Given as goal

abbrev pub invariant-loop-field : goal.invariant-loop-field
invariant-loop-field l = Learns l.fn.self l.self

abbrev pub invariant-loop-field-2 : goal.invariant-loop-field-2
invariant-loop-field-2 l = Learns l.fn.self l.self
