use Rattle.std.proofs.Common.{◌≡◌, drop}
use Rattle.std.specs.List.{list_all}
use Rattle.raft_base.specs.LogView.{may_ask}
use Rattle.raft_state.specs.raft_state.VoteAndLog.{log_view_of}
use Rattle.raft_state.proofs.raft_state.RaftStateIn.can_ask_all.Given as goal

abbrev pub invariant-loop-entry : goal.invariant-loop-entry
invariant-loop-entry g l =
    list_all (λ e. may_ask g.C.Ord.cmp (log_view_of l.self) (g.Ent.RaftLogId.id_of e)) (drop l.entry-index l.entries)
    ≡ list_all (λ e. may_ask g.C.Ord.cmp (log_view_of l.self) (g.Ent.RaftLogId.id_of e)) l.fn.entries
