use Rattle.std.proofs.Common.{◌≡◌, ◌+◌, ◌≤◌, drop, take}
use Rattle.trace_checker.specs.Inner.CheckerState.{common_len, same_entry_by}
use Rattle.trace_checker.specs.Inner.Logs.{log_at}
use Rattle.trace_checker.proofs.checker.logs.Logs.common_with.Given as goal

abbrev pub invariant-loop-i : goal.invariant-loop-i
invariant-loop-i g l = record {
  at : log_at l.self l.at ≡ take (l.keep + l.i) (log_at l.self l.log);
  common : l.common ≡ l.i + common_len (same_entry_by g.T.PartialEq.eq g.D.PartialEq.eq)
      (drop (l.keep + l.i) (log_at l.self l.log)) (drop l.i l.entries);
  within : l.common ≤ l.len;
}
