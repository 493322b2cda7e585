use Rattle.std.proofs.Common.{◌≡◌, drop, map}
use Rattle.raft_state.specs.log_id_list.LogConditions.{all_follow}
use Rattle.raft_state.proofs.log_id_list.keys.may_all_follow.Given as goal

abbrev pub invariant-loop-id : goal.invariant-loop-id
invariant-loop-id g l = all_follow g.C.Ord.cmp l.last (map g.LID.RaftLogId.id_of (drop l.id-index l.ids))
    ≡ all_follow g.C.Ord.cmp l.fn.last (map g.LID.RaftLogId.id_of l.ids)
