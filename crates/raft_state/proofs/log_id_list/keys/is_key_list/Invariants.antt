use Rattle.std.proofs.Common.{◌≡◌, ◌-◌, drop}
use Rattle.raft_state.specs.log_id_list.Keys.{may_be_keys}
use Rattle.raft_state.proofs.log_id_list.keys.is_key_list.Given as goal

abbrev pub invariant-loop-place : goal.invariant-loop-place
invariant-loop-place g l = may_be_keys g.C.Ord.cmp (drop (l.place - 1) l.keys) ≡ may_be_keys g.C.Ord.cmp l.keys
