use Rattle.std.proofs.Common.{◌≡◌, drop}
use Rattle.raft_progress.specs.Inner.Conditions.{ids_differ}
use Rattle.raft_progress.proofs.progress.conditions.has_distinct_ids.Given as goal

-- the result is the one of the entries from here on
abbrev pub invariant-loop-position : goal.invariant-loop-position
invariant-loop-position g l = ids_differ g.ID.PartialEq.eq l.entries ≡ ids_differ g.ID.PartialEq.eq (drop l.position l.entries)
