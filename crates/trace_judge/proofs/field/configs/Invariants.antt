use Rattle.trace_judge.specs.Fields.{IsConfig}
use Rattle.trace_judge.specs.Inner.Table.{numbering}
use Rattle.trace_judge.proofs.lemmas.FieldLemmas.{SaySoFar}
use Rattle.trace_judge.proofs.field.configs.Given as goal

abbrev pub invariant-loop-item : goal.invariant-loop-item
invariant-loop-item l = SaySoFar (IsConfig (numbering l.names)) l.item-items l.item-index l.configs.items
