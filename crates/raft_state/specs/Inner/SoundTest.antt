-- What a sound state has, as one test.
use Rattle.std.specs.Prelude.{Bool, not, ◌&&◌, ◌||◌}
use Rattle.std.specs.Option.{is_none}
use Rattle.std.specs.declared.cmp.Ordering.{Ordering}
use Rattle.raft_base.specs.LogId.{id_le, same_ids}
use Rattle.raft_members.specs.membership.Stored.{log_id_of}
use Rattle.raft_state.specs.Accepted.{last_accepted}
use Rattle.raft_state.specs.log_id_list.FullLog.{full_log}
use Rattle.raft_state.specs.log_id_list.LogReads.{last_id}
use Rattle.raft_state.specs.raft_state.Sound.{purged_or_logged}
use Rattle.raft_state.specs.raft_state.VoteAndLog.{log_view_of}
use Rattle.raft_state.specs.raft_state.Valid.{broken_relation, none_or_logged}
use Rattle.raft_state.specs.declared.raft_state.RaftStateIn.{RaftStateIn}

-- each relation of a sound state holds
abbrev pub passes_sound : {K N I L C : Type 0} → (C → C → Bool) → (C → C → Ordering)
    → RaftStateIn K N I L C → Bool
passes_sound eq cmp s =
    is_none (broken_relation cmp s)
    && none_or_logged eq (log_view_of s) s.purge_upto
    && none_or_logged eq (log_view_of s) s.committed
    && id_le cmp (last_accepted s.accepted) (last_id (full_log s.log_ids))
    && purged_or_logged eq s (log_id_of s.membership_state.committed)
    && purged_or_logged eq s (log_id_of s.membership_state.effective)
    && (not (id_le cmp (log_id_of s.membership_state.effective) s.committed)
    || same_ids eq (log_id_of s.membership_state.effective)
    (log_id_of s.membership_state.committed))
