use Rattle.std.proofs.Common.{◌≡◌, Some, drop}
use Rattle.steps_handlers.specs.Restart.{entries_past}
use Rattle.steps_handlers.proofs.restart.first_past.Given as goal

abbrev pub invariant-loop-place : goal.invariant-loop-place
invariant-loop-place g l = entries_past g.C.PartialEq.eq (Some l.upto) (drop l.place l.entries)
    ≡ entries_past g.C.PartialEq.eq (Some l.upto) l.entries
