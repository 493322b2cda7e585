use Rattle.std.proofs.Common.{ℕ, IfSome, Option, Some, None}
use Rattle.serde_json.specs.Data.{Data}
use Rattle.serde_json.specs.View.{view}
use Rattle.trace_checker.specs.Checker.{event_of as trace_event}
use Rattle.trace_checker.specs.declared.event.Event.{Event}
use Rattle.trace_judge.specs.Inner.Table.{numbering}
use Rattle.trace_judge.specs.Line.{Says}
use Rattle.trace_judge.specs.Names.{Numbering}
use Rattle.trace_judge.proofs.event.event_of.Goals as goal
use Rattle.trace_judge.proofs.event.event_of.Goals.{in-campaigned, in-granted, in-acked, in-restarted, in-wrote, in-committed, in-applied, in_default}

-- what a line says with any first index, it says with this one
with_first : (number_of : Numbering) (first : ℕ) (d : Data) (o : Option (Event ℕ ℕ ℕ))
    → IfSome o (λ e. (n : ℕ) → Says number_of n d (trace_event e)) → IfSome o (λ e. Says number_of first d (trace_event e))
with_first number_of first d None h = tt
with_first number_of first d (Some e) h = h first

pub returns : goal.returns
returns c =
    let number_of = numbering c.args.names.now in
    let first = c.args.first in
    let d = view c.args.value.now in
    elim c.match-unwrap_or.branch [
      | in-campaigned w ↦ rw w.result-is (with_first number_of first d w.campaigned.result w.campaigned.ensures)
      | in-granted w ↦ rw w.result-is (with_first number_of first d w.granted.result w.granted.ensures)
      | in-acked w ↦ rw w.result-is w.acked.ensures
      | in-restarted w ↦ rw w.result-is w.restarted.ensures
      | in-wrote w ↦ rw w.result-is (with_first number_of first d w.wrote.result w.wrote.ensures)
      | in-committed w ↦ rw w.result-is w.committed.ensures
      | in-applied w ↦ rw w.result-is w.applied.ensures
      | in_default w ↦ rw w.result-is tt
    ]
