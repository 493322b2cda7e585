use Rattle.std.proofs.Common.{◌≡◌, drop, map}
use Rattle.raft_state.specs.raft_state.Appended.{are_consecutive}
use Rattle.raft_state.proofs.append.are_consecutive.Given as goal

abbrev pub invariant-loop-entry : goal.invariant-loop-entry
invariant-loop-entry g l =
    are_consecutive l.last (map g.Ent.RaftLogId.id_of (drop l.entry-index l.entries))
    ≡ are_consecutive l.fn.last (map g.Ent.RaftLogId.id_of l.entries)
