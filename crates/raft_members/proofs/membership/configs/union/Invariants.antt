use Rattle.std.proofs.Common.{◌≡◌, ◌++◌}
use Rattle.raft_members.specs.membership.Change.{union_of}
use Rattle.raft_members.proofs.membership.configs.union.Given as goal

abbrev pub invariant-loop-id : goal.invariant-loop-id
invariant-loop-id g l = union_of g.ID.Ord.cmp l.these.keys l.others.keys ≡ l.set.keys ++ l.id-iterator
