-- When a state's log may be truncated from an index on.
use Rattle.std.specs.Prelude.{ℕ, Bool, ◌&&◌, Some}
use Rattle.std.specs.declared.cmp.Ordering.{Ordering}
use Rattle.raft_base.specs.LogId.{id_le, index_of}
use Rattle.raft_base.specs.LogIndex.{index_lt}
use Rattle.raft_state.specs.log_id_list.FullLog.{full_log}
use Rattle.raft_state.specs.log_id_list.LogEdits.{front}
use Rattle.raft_state.specs.log_id_list.LogReads.{last_id}
use Rattle.raft_state.specs.membership_state.Memberships.{index_at}
use Rattle.raft_state.specs.declared.raft_state.RaftStateIn.{RaftStateIn}

-- nothing that is committed is truncated: the index is past the committed one, the committed log id
-- is not above the last one that stays, and the index is past the committed membership
abbrev pub can_truncate_log : {K N I L C : Type 0} → (C → C → Ordering) → ℕ → RaftStateIn K N I L C
    → Bool
can_truncate_log cmp since s =
    index_lt (index_of s.committed) (Some since)
    && id_le cmp s.committed (last_id (front (full_log s.log_ids) since))
    && index_lt (index_at s.membership_state.committed) (Some since)
