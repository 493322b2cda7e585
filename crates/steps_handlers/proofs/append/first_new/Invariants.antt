use Rattle.std.proofs.Common.{◌≡◌, ◌+◌, drop}
use Rattle.std.specs.List.{prefix_len}
use Rattle.steps_handlers.specs.Append.{has_entry}
use Rattle.steps_handlers.proofs.append.first_new.Given as goal

abbrev pub invariant-loop-place : goal.invariant-loop-place
invariant-loop-place g l = prefix_len (has_entry g.C.PartialEq.eq l.state) l.entries
    ≡ l.place + prefix_len (has_entry g.C.PartialEq.eq l.state) (drop l.place l.entries)
