use Rattle.std.proofs.Common.{◌≤◌, ◌<◌, ℕ, length, get_or}
use Rattle.trace_checker.specs.declared.checker.terms.Kept.{Kept}
use Rattle.trace_checker.proofs.checker.terms.count_at_most.Given as goal

-- the items after the first ones are greater
abbrev pub invariant-loop-i : goal.invariant-loop-i
invariant-loop-i l =
    (j : ℕ) (d : Kept) → l.i ≤ j → j < length l.kept → l.len < (get_or l.kept j d).len
