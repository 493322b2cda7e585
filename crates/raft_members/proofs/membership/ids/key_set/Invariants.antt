use Rattle.std.proofs.Common.{◌≡◌, ◌++◌}
use Rattle.std.specs.BTreeMap.{keys}
use Rattle.raft_members.proofs.membership.ids.key_set.Given as goal

abbrev pub invariant-loop-id : goal.invariant-loop-id
invariant-loop-id g l = keys l.nodes ≡ l.set.keys ++ l.id-iterator
