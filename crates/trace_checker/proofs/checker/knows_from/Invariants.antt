use Rattle.std.proofs.Common.{◌≡◌, drop, map}
use Rattle.std.specs.List.{list_any}
use Rattle.trace_checker.specs.Inner.CheckerState.{knows, same_entry_by}
use Rattle.trace_checker.specs.Inner.Kept.{leader_in}
use Rattle.trace_checker.specs.Inner.Logs.{AreDistinct, IsExact, log_at}
use Rattle.trace_checker.proofs.checker.knows_from.Given as goal

abbrev pub invariant-loop-j : goal.invariant-loop-j
invariant-loop-j g l =
    IsExact (same_entry_by g.T.PartialEq.eq g.D.PartialEq.eq) → AreDistinct l.logs
    → list_any (knows g.T.Term.rank (same_entry_by g.T.PartialEq.eq g.D.PartialEq.eq) l.rank (log_at l.logs l.prefix))
    (drop l.j (map (leader_in l.logs) l.leaders.items))
    ≡ list_any (knows g.T.Term.rank (same_entry_by g.T.PartialEq.eq g.D.PartialEq.eq) l.rank (log_at l.logs l.prefix))
    (drop l.from (map (leader_in l.logs) l.leaders.items))
