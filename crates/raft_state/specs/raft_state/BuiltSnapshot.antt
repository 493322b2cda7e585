-- When a node may record a snapshot that it has built itself, and schedule a purge of its log.
use Rattle.std.specs.Prelude.{Bool, ◌&&◌, Some}
use Rattle.std.specs.declared.cmp.Ordering.{Ordering}
use Rattle.raft_base.specs.LogId.{id_le, id_lt, index_of}
use Rattle.raft_base.specs.LogIndex.{index_le}
use Rattle.raft_base.specs.declared.log_id.LogIdOf.{LogIdOf}
use Rattle.raft_members.specs.membership.Stored.{log_id_of}
use Rattle.raft_state.specs.membership_state.Memberships.{index_at}
use Rattle.raft_state.specs.raft_state.VoteAndLog.{log_view_of}
use Rattle.raft_state.specs.raft_state.Valid.{none_or_logged}
use Rattle.raft_state.specs.declared.raft_state.RaftStateIn.{RaftStateIn}
use Rattle.raft_state.specs.declared.snapshot_meta.SnapshotMetaOf.{SnapshotMetaOf}

-- a snapshot goes further than the last one, and not past what is committed; neither the purge
-- point nor its membership is past it
abbrev pub may_build_snapshot : {K N I L C : Type 0} → (C → C → Ordering) → SnapshotMetaOf C K N
    → RaftStateIn K N I L C → Bool
may_build_snapshot cmp meta s =
    id_lt cmp s.snapshot_meta.last_log_id meta.last_log_id
    && id_le cmp meta.last_log_id s.committed
    && id_le cmp s.purge_upto meta.last_log_id
    && id_le cmp (log_id_of meta.last_membership) meta.last_log_id
    && index_le (index_at meta.last_membership) (index_of meta.last_log_id)

-- the log may be purged up to a log id that it has, which is not below the purge point and not past
-- the snapshot
abbrev pub may_schedule_purge : {K N I L C : Type 0} → (C → C → Bool) → (C → C → Ordering)
    → LogIdOf C → RaftStateIn K N I L C → Bool
may_schedule_purge eq cmp upto s =
    none_or_logged eq (log_view_of s) (Some upto)
    && id_le cmp s.purge_upto (Some upto)
    && id_le cmp (Some upto) s.snapshot_meta.last_log_id
