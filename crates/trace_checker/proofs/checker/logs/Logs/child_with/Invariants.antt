use Rattle.std.proofs.Common.{◌≡◌, ◌<◌, ◌≤◌, ◌++◌, ◌∷◌, [], ℕ, length}
use Rattle.trace_checker.specs.Inner.CheckerState.{same_entry_by}
use Rattle.trace_checker.specs.Inner.Logs.{AreDistinct, IsExact, log_at}
use Rattle.trace_checker.proofs.checker.logs.Logs.child_with.Given as goal

abbrev pub invariant-loop-i : goal.invariant-loop-i
invariant-loop-i g l =
    IsExact (same_entry_by g.T.PartialEq.eq g.D.PartialEq.eq) → AreDistinct l.self → l.log < length l.self.logs
    → (j : ℕ) → j ≤ l.i → log_at l.self j ≡ log_at l.self l.log ++ l.entry ∷ [] → ⊥
