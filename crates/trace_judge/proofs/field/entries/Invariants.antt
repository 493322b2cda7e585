use Rattle.trace_judge.specs.Fields.{IsEntry}
use Rattle.trace_judge.specs.Inner.Table.{numbering}
use Rattle.trace_judge.proofs.lemmas.FieldLemmas.{SaySoFar}
use Rattle.trace_judge.proofs.field.entries.Given as goal

abbrev pub invariant-loop-item : goal.invariant-loop-item
invariant-loop-item l = SaySoFar (IsEntry (numbering l.names)) l.item-items l.item-index l.entries.items
