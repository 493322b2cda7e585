use Rattle.std.proofs.Common.{◌≡◌, ◌≤◌, ◌+◌, ◌-◌, drop, length, map}
use Rattle.std.specs.Vec.{vec_capacity, vec_len}
use Rattle.raft_state.specs.Inner.KeyEdits.{keys_after_extend}
use Rattle.raft_state.proofs.log_id_list.keys.extend_by_each.Given as goal

abbrev pub invariant-loop-id : goal.invariant-loop-id
invariant-loop-id g l = record {
  room : vec_len l.keys + (length l.ids - l.id-index) ≤ vec_capacity l.keys;
  same : keys_after_extend g.C.PartialEq.eq l.keys.items (map g.LID.RaftLogId.id_of (drop l.id-index l.ids))
      ≡ keys_after_extend g.C.PartialEq.eq l.fn.keys.items (map g.LID.RaftLogId.id_of l.ids);
}
