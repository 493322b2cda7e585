-- The vote and the log of a state.
use Rattle.std.specs.Prelude.{Option, None, ◌==◌, if◌then◌else◌}
use Rattle.raft_base.specs.LogView.{LogView}
use Rattle.raft_base.specs.UTime.{data_of}
use Rattle.raft_base.specs.declared.log_id.LogIdOf.{LogIdOf}
use Rattle.raft_base.specs.declared.vote.VoteIn.{VoteIn}
use Rattle.raft_state.specs.log_id_list.FullLog.{full_log}
use Rattle.raft_state.specs.log_id_list.LogReads.{id_at, first_id, last_id}
use Rattle.raft_state.specs.declared.raft_state.RaftStateIn.{RaftStateIn}

-- the vote of a state
abbrev pub vote_of : {K N I L C : Type 0} → RaftStateIn K N I L C → VoteIn L
vote_of s = data_of s.vote

-- the last log id that was purged is still known: if any was purged, it is the first one of the log
abbrev pub last_purged : {K N I L C : Type 0} → RaftStateIn K N I L C → Option (LogIdOf C)
last_purged s = if s.purged_next == 0 then None else first_id (full_log s.log_ids)

-- the log ids of the full log, and those up to which it is committed, applied, in a snapshot and
-- purged
abbrev pub log_view_of : {K N I L C : Type 0} → RaftStateIn K N I L C → LogView C
log_view_of s = record {
  id_at = id_at (full_log s.log_ids);
  last = last_id (full_log s.log_ids);
  committed = s.committed;
  snapshot = s.snapshot_meta.last_log_id;
  purge_upto = s.purge_upto;
  last_purged = last_purged s;
  io_applied = s.io_state.applied;
  io_snapshot = s.io_state.snapshot;
  io_purged = s.io_state.purged;
}
