use Rattle.std.proofs.Common.{◌≡◌, ◌≤◌, ◌-◌, length, drop, max, take}
use Rattle.trace_checker.specs.Inner.Logs.{log_at}
use Rattle.trace_checker.proofs.checker.Checker.leader_entries.Given as goal

abbrev pub invariant-loop-i : goal.invariant-loop-i
invariant-loop-i g l = record {
  after : l.from ≤ l.i;
  before : l.i ≤ max l.from l.len;
  counts : length l.entries.items ≡ l.i - l.from;
  read : l.entries.items ≡ drop l.from (take l.i (log_at l.self.logs l.log));
}
