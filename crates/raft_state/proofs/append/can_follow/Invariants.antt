use Rattle.std.proofs.Common.{◌≡◌, drop, is_some}
use Rattle.raft_state.specs.raft_state.Appended.{memberships_follow}
use Rattle.raft_state.proofs.append.can_follow.Given as goal

abbrev pub invariant-loop-entry : goal.invariant-loop-entry
invariant-loop-entry g l =
    memberships_follow g.C.Ord.cmp g.Ent.RaftLogId.id_of (λ e. is_some (g.Ent.RaftPayload.membership e)) l.last
    (drop l.entry-index l.entries)
    ≡ memberships_follow g.C.Ord.cmp g.Ent.RaftLogId.id_of (λ e. is_some (g.Ent.RaftPayload.membership e)) l.fn.effective l.entries
