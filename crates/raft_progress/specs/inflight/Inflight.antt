-- What is in flight to a follower: nothing, logs, or a snapshot.
use Rattle.std.specs.Prelude.{ℕ, Bool, true, false, nat_eq, Option, Some, None, if◌then◌else◌}
use Rattle.std.specs.declared.cmp.Ordering.{Ordering}
use Rattle.std.specs.Option.{option_eq}
use Rattle.raft_base.specs.LogId.{id_lt}
use Rattle.raft_base.specs.declared.log_id.LogIdOf.{LogIdOf}
use Rattle.raft_progress.specs.declared.inflight.InflightError.{InflightError}
use Rattle.raft_progress.specs.declared.inflight.InflightError.TheVariants.{InvalidRequestId}
use Rattle.raft_progress.specs.declared.inflight.InflightOf.{InflightOf}
use Rattle.raft_progress.specs.declared.inflight.InflightOf.TheVariants.{None as Idle, Logs, Snapshot}
use Rattle.raft_progress.specs.declared.inflight.RequestId.{RequestId}
use Rattle.raft_progress.specs.declared.inflight.RequestId.TheVariants.{AppendEntries, Snapshot as SnapshotRequest}

-- the logs after prev up to last, with a request id, if there are any
abbrev pub logs_from : {C : Type 0} → (C → C → Ordering) → ℕ → Option (LogIdOf C)
    → Option (LogIdOf C) → InflightOf C
logs_from cmp id prev last =
    if id_lt cmp prev last then Logs id (record { prev = prev; last = last }) else Idle

-- the logs or the snapshot with another request id
abbrev pub with_id : {C : Type 0} → InflightOf C → ℕ → InflightOf C
with_id Idle id = Idle
with_id (Logs mine range) id = Logs id range
with_id (Snapshot mine last) id = Snapshot id last

-- whether nothing is in flight
abbrev pub is_idle : {C : Type 0} → InflightOf C → Bool
is_idle Idle = true
is_idle (Logs id range) = false
is_idle (Snapshot id last) = false

-- whether logs are in flight
abbrev pub is_sending_log : {C : Type 0} → InflightOf C → Bool
is_sending_log Idle = false
is_sending_log (Logs id range) = true
is_sending_log (Snapshot id last) = false

-- whether a snapshot is in flight
abbrev pub is_sending_snapshot : {C : Type 0} → InflightOf C → Bool
is_sending_snapshot Idle = false
is_sending_snapshot (Logs id range) = false
is_sending_snapshot (Snapshot id last) = true

-- the request that is in flight
abbrev pub request_of : {C : Type 0} → InflightOf C → Option RequestId
request_of Idle = None
request_of (Logs id range) = Some (AppendEntries id)
request_of (Snapshot id last) = Some (SnapshotRequest id)

-- the id of the request that is in flight
abbrev pub id_of : {C : Type 0} → InflightOf C → Option ℕ
id_of Idle = None
id_of (Logs id range) = Some id
id_of (Snapshot id last) = Some id

-- why a response to a request is refused: another request is in flight, or none
abbrev pub wrong_id : {C : Type 0} → InflightOf C → ℕ → Option InflightError
wrong_id inflight id =
    if option_eq nat_eq (id_of inflight) (Some id) then None
    else Some (InvalidRequestId (id_of inflight) id)

-- whether the log with this id is among the logs in flight, or past them
abbrev pub is_after_prev : {C : Type 0} → (C → C → Ordering) → InflightOf C → LogIdOf C → Bool
is_after_prev cmp Idle upto = false
is_after_prev cmp (Logs id range) upto = id_lt cmp range.prev (Some upto)
is_after_prev cmp (Snapshot id last) upto = false
