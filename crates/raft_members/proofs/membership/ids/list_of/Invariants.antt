use Rattle.std.proofs.Common.{◌≡◌, ◌++◌}
use Rattle.raft_members.proofs.membership.ids.list_of.Given as goal

abbrev pub invariant-loop-id : goal.invariant-loop-id
invariant-loop-id g l = l.ids.keys ≡ l.list.items ++ l.id-iterator
