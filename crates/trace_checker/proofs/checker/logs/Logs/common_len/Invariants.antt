use Rattle.std.proofs.Common.{◌≡◌, ◌≤◌, length}
use Rattle.trace_checker.specs.Inner.CheckerState.{common_len, same_entry_by}
use Rattle.trace_checker.specs.Inner.Logs.{AreDistinct, IsExact, log_at}
use Rattle.trace_checker.proofs.checker.logs.Logs.common_len.Given as goal

abbrev pub invariant-loop-x : goal.invariant-loop-x
invariant-loop-x g l = record {
  same_len : length (log_at l.self l.x) ≡ length (log_at l.self l.y);
  in_a : length (log_at l.self l.x) ≤ length (log_at l.self l.a);
  in_b : length (log_at l.self l.x) ≤ length (log_at l.self l.b);
  common : IsExact (same_entry_by g.T.PartialEq.eq g.D.PartialEq.eq) → AreDistinct l.self
      → common_len (same_entry_by g.T.PartialEq.eq g.D.PartialEq.eq) (log_at l.self l.x) (log_at l.self l.y)
      ≡ common_len (same_entry_by g.T.PartialEq.eq g.D.PartialEq.eq) (log_at l.self l.a) (log_at l.self l.b);
}

abbrev pub decreases-loop-x : goal.decreases-loop-x
decreases-loop-x g l = l.x
