-- Sound states: valid states whose log has what the state says about it.
use Rattle.std.specs.Prelude.{◌≡◌, Bool, nat_le, ◌||◌, Option, None, IsTrue}
use Rattle.std.specs.declared.cmp.Ordering.{Ordering}
use Rattle.raft_base.specs.LogId.{id_le, next_index}
use Rattle.raft_base.specs.declared.log_id.LogIdOf.{LogIdOf}
use Rattle.raft_members.specs.membership.Stored.{log_id_of}
use Rattle.raft_state.specs.Accepted.{last_accepted}
use Rattle.raft_state.specs.log_id_list.FullLog.{full_log}
use Rattle.raft_state.specs.log_id_list.LogReads.{last_id}
use Rattle.raft_state.specs.membership_state.MembershipMoves.{is_effective_committed}
use Rattle.raft_state.specs.raft_state.VoteAndLog.{log_view_of}
use Rattle.raft_state.specs.raft_state.Valid.{broken_relation, none_or_logged}
use Rattle.raft_state.specs.declared.raft_state.RaftStateIn.{RaftStateIn}

-- a log id is absent, its index is purged, or it is the log id that the log has at its index
abbrev pub purged_or_logged : {K N I L C : Type 0} → (C → C → Bool) → RaftStateIn K N I L C
    → Option (LogIdOf C) → Bool
purged_or_logged eq s id =
    nat_le (next_index id) s.purged_next || none_or_logged eq (log_view_of s) id

-- a state is sound: it is valid, the log has the purge point and the committed log id, what was
-- accepted is not past the log, both memberships are purged or in the log, and the effective
-- membership is committed if its log id is
pub record IsSound {K N I L C : Type 0} (eq : C → C → Bool) (cmp : C → C → Ordering)
    (s : RaftStateIn K N I L C) : Type 0 where
  pub valid : broken_relation cmp s ≡ None
  pub purge_point : IsTrue (none_or_logged eq (log_view_of s) s.purge_upto)
  pub committed : IsTrue (none_or_logged eq (log_view_of s) s.committed)
  pub accepted : IsTrue (id_le cmp (last_accepted s.accepted) (last_id (full_log s.log_ids)))
  pub committed_membership :
      IsTrue (purged_or_logged eq s (log_id_of s.membership_state.committed))
  pub effective_membership :
      IsTrue (purged_or_logged eq s (log_id_of s.membership_state.effective))
  pub known : IsTrue (id_le cmp (log_id_of s.membership_state.effective) s.committed)
      → IsTrue (is_effective_committed eq s.membership_state)
