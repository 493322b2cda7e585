-- What a restart makes of the snapshot of the disk.
use Rattle.std.specs.Prelude.{◌≡◌, Bool, false}
use Rattle.raft_base.specs.LogId.{next_index}
use Rattle.steps_handlers.specs.Restart.{snapshot_ids, IsSnapshotAt, AreSnapshotMemberships}
use Rattle.steps_handlers.specs.declared.error.SnapshotError.{SnapshotError}
use Rattle.steps_handlers.specs.declared.error.SnapshotError.TheVariants.{DoesNotFit, OutOfMemory}
use Rattle.raft_state.specs.declared.raft_state.RaftStateIn.{RaftStateIn}
use Rattle.raft_state.specs.declared.snapshot_meta.SnapshotMetaOf.{SnapshotMetaOf}
use Rattle.raft_state.specs.log_id_list.FullLog.{full_log}

-- a server has a snapshot alone
pub record HasSnapshotAlone {K N I L C : Type 0} (eq : K → K → Bool) (same : N → N → Bool)
    (meta : SnapshotMetaOf C K N) (s : RaftStateIn K N I L C) : Type 0 where
  pub log : full_log s.log_ids ≡ snapshot_ids meta.last_log_id
  pub committed : s.committed ≡ meta.last_log_id
  pub purged_next : s.purged_next ≡ next_index meta.last_log_id
  pub purge_point : s.purge_upto ≡ meta.last_log_id
  pub memberships : AreSnapshotMemberships eq same meta s.membership_state
  pub snapshot : IsSnapshotAt eq same meta.last_log_id meta s.snapshot_meta

-- a snapshot is refused only if it does not fit, or because an allocation fails
abbrev pub RefusedUnlessFits : Bool → SnapshotError → Type 0
RefusedUnlessFits fits DoesNotFit = fits ≡ false
RefusedUnlessFits fits OutOfMemory = Unit {0}
