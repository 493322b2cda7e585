use Rattle.std.proofs.Common.{◌≡◌, drop, map, false}
use Rattle.std.specs.List.{list_any}
use Rattle.trace_checker.specs.Inner.CheckerState.{same_entry_by}
use Rattle.trace_checker.specs.Inner.Known.{commit_in, covers}
use Rattle.trace_checker.specs.Inner.Logs.{AreDistinct, IsExact, log_at}
use Rattle.trace_checker.proofs.checker.known.is_covered.Given as goal

-- no commit from this one on covers the log
abbrev pub invariant-loop-i : goal.invariant-loop-i
invariant-loop-i g l =
    IsExact (same_entry_by g.T.PartialEq.eq g.D.PartialEq.eq) → AreDistinct l.logs
    → list_any (covers (same_entry_by g.T.PartialEq.eq g.D.PartialEq.eq) l.rank l.counted_at (log_at l.logs l.log))
    (drop l.i (map (commit_in l.logs) l.commits)) ≡ false
