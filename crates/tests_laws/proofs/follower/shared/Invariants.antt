use Rattle.std.proofs.Common.{◌≡◌, ◌≤◌, length, ◌+◌, drop}
use Rattle.tests_laws.proofs.follower.shared.Given as goal
use Rattle.tests_laws.specs.Follower.{entries_of, number}
use Rattle.safety_laws.specs.AppendEntries.{after_append_entries}

abbrev pub invariant-loop-i : goal.invariant-loop-i
invariant-loop-i l = record {
  fits : l.from + l.i ≤ length l.log;
  rest : after_append_entries number l.from (entries_of l.log) (entries_of l.entries)
      ≡ after_append_entries number (l.from + l.i) (entries_of l.log) (entries_of (drop l.i l.entries));
}
