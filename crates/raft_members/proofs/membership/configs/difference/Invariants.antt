use Rattle.std.proofs.Common.{◌≡◌, ◌++◌}
use Rattle.raft_members.specs.membership.Change.{without}
use Rattle.raft_members.proofs.membership.configs.difference.Given as goal

abbrev pub invariant-loop-id : goal.invariant-loop-id
invariant-loop-id g l = without g.ID.PartialEq.eq l.these.keys l.others.keys ≡ l.set.keys ++ l.id-iterator
