use Rattle.std.proofs.Common.{◌≡◌, ◌++◌}
use Rattle.std.specs.Iterator.Adapters.{rev_source}
use Rattle.raft_members.proofs.membership.ids.copy.Given as goal

abbrev pub invariant-loop-id : goal.invariant-loop-id
invariant-loop-id g l = l.ids.keys ≡ rev_source l.id-iterator ++ l.set.keys
