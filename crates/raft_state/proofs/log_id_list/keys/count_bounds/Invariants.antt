use Rattle.std.proofs.Common.{◌+◌, ◌≤◌, length}
use Rattle.raft_state.specs.Inner.KeyList.{keys_to}
use Rattle.raft_state.proofs.log_id_list.keys.count_bounds.Given as goal

abbrev pub invariant-loop-size : goal.invariant-loop-size
invariant-loop-size g l = (l.least ≤ keys_to l.keys l.index) × (keys_to l.keys l.index ≤ l.least + l.size)
    × (l.least + l.size ≤ length l.keys)

abbrev pub decreases-loop-size : goal.decreases-loop-size
decreases-loop-size g l = l.size
