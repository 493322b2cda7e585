-- What the disk of a server has when the server restarts.
use Rattle.std.specs.Prelude.{◌≡◌, ◌≤◌, ◌++◌, ℕ, Bool, List, Some}
use Rattle.raft_base.specs.LogId.{next_index}
use Rattle.raft_base.specs.declared.log_id.LogIdOf.{LogIdOf}
use Rattle.steps_handlers.specs.Entries.{entry_ids}
use Rattle.steps_handlers.specs.Restart.{entries_past, snapshot_ids}
use Rattle.steps_safety.specs.Server.{State}
use Rattle.raft_state.specs.log_id_list.LogReads.{id_at, last_id}
use Rattle.raft_state.specs.declared.entry.EntryOf.{EntryOf}
use Rattle.raft_state.specs.declared.snapshot_meta.SnapshotMetaOf.{SnapshotMetaOf}

-- the log ids of a disk: the last one of the snapshot, and those of the entries past it
abbrev pub disk_ids : {C K N D : Type 0} → (C → C → Bool) → SnapshotMetaOf C K N → List (EntryOf C K N D)
    → List (LogIdOf C)
disk_ids eq meta stored =
    snapshot_ids meta.last_log_id ++ entry_ids (entries_past eq meta.last_log_id stored)

-- a disk has the log of a state: its log ids are of that log, with the last one, and the snapshot is of
-- what is known to be committed
pub record HasOnDisk {L C K N D : Type 0} (eq : C → C → Bool) (meta : SnapshotMetaOf C K N)
    (stored : List (EntryOf C K N D)) (s : State L C) : Type 0 where
  pub snapshot : next_index meta.last_log_id ≤ next_index s.committed
  pub log : (i : ℕ) (x : LogIdOf C) → id_at (disk_ids eq meta stored) i ≡ Some x → id_at s.ids i ≡ Some x
  pub same_end : last_id (disk_ids eq meta stored) ≡ last_id s.ids
