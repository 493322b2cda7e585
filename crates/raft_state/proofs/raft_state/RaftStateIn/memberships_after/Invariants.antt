use Rattle.std.proofs.Common.{drop, is_some, IsTrue}
use Rattle.raft_members.specs.membership.Stored.{log_id_of}
use Rattle.raft_state.specs.raft_state.Appended.{AppendsMemberships, memberships_follow}
use Rattle.raft_state.specs.membership_state.Memberships.{Memberships}
use Rattle.raft_state.proofs.raft_state.RaftStateIn.memberships_after.Given as goal

abbrev pub invariant-loop-entry : goal.invariant-loop-entry
invariant-loop-entry g l = record {
  follow : IsTrue (memberships_follow g.C.Ord.cmp g.Ent.RaftLogId.id_of (λ e. is_some (g.Ent.RaftPayload.membership e))
      (log_id_of l.memberships.effective) (drop l.entry-index l.entries));
  appended : (new : Memberships g.row.C.Denot g.row.NID.Denot g.row.N.Denot)
      → AppendsMemberships g.NID.PartialEq.eq g.N.PartialEq.eq g.Ent.RaftLogId.id_of g.Ent.RaftPayload.membership
      (drop l.entry-index l.entries) l.memberships new
      → AppendsMemberships g.NID.PartialEq.eq g.N.PartialEq.eq g.Ent.RaftLogId.id_of g.Ent.RaftPayload.membership l.entries
      l.fn.self.membership_state new;
}
