use Rattle.std.proofs.Common.{◌≡◌, ◌≤◌, take}
use Rattle.trace_checker.specs.Inner.Logs.{log_at}
use Rattle.trace_checker.proofs.checker.logs.Logs.first.Given as goal

abbrev pub invariant-loop-node : goal.invariant-loop-node
invariant-loop-node g l = record {
  same : take l.len (log_at l.self l.at) ≡ take l.len (log_at l.self l.log);
  earlier : l.at ≤ l.log;
}

abbrev pub decreases-loop-node : goal.decreases-loop-node
decreases-loop-node g l = l.at
