use Rattle.std.proofs.Common.{◌≡◌, take}
use Rattle.trace_checker.specs.Inner.CheckerState.{kept_from}
use Rattle.trace_checker.proofs.checker.terms.kept_since.Given as goal

-- the last of the terms that are not later is among the first items
abbrev pub invariant-loop-i : goal.invariant-loop-i
invariant-loop-i l = kept_from 0 (take l.i l.kept) l.rank ≡ kept_from 0 l.kept l.rank
