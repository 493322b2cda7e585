use Rattle.std.proofs.Common.{◌≡◌, drop}
use Rattle.steps_handlers.specs.Entries.{are_in_order}
use Rattle.steps_handlers.proofs.log.are_successors.Given as goal

abbrev pub invariant-loop-entry : goal.invariant-loop-entry
invariant-loop-entry g l =
    are_in_order g.C.Ord.cmp l.after (drop l.entry-index l.entries) ≡ are_in_order g.C.Ord.cmp l.fn.last l.entries
