use Rattle.std.proofs.Common.{◌≡◌, ◌+◌, min}
use Rattle.raft_state.specs.Inner.KeyList.{keys_to}
use Rattle.raft_state.proofs.log_id_list.keys.count_to.Given as goal

abbrev pub invariant-loop-key : goal.invariant-loop-key
invariant-loop-key g l = l.count ≡ min (l.least + l.key-index) (keys_to l.fn.keys l.fn.index)
