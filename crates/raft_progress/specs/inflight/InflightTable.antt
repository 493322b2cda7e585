-- What a follower's response makes of what is in flight, case by case.
use Rattle.std.specs.Prelude.{◌≡◌, ℕ, Bool, ◌&&◌, ◌==◌, nat_eq, Option, Some, None, Result, Ok, Err, if◌then◌else◌}
use Rattle.std.specs.declared.cmp.Ordering.{Ordering}
use Rattle.std.specs.Option.{option_eq}
use Rattle.raft_base.specs.LogIndex.{index_le}
use Rattle.raft_base.specs.LogId.{id_le, id_lt, index_of}
use Rattle.raft_base.specs.declared.log_id.LogIdOf.{LogIdOf}
use Rattle.raft_base.specs.declared.log_id.log_id_range.LogIdRangeOf.{LogIdRangeOf}
use Rattle.raft_progress.specs.inflight.Inflight.{logs_from}
use Rattle.raft_progress.specs.declared.inflight.InflightError.{InflightError}
use Rattle.raft_progress.specs.declared.inflight.InflightError.TheVariants.{InvalidRequestId, AckOutOfRange, SnapshotAckRegress, ConflictNotAtPrev, ConflictOnSnapshot}
use Rattle.raft_progress.specs.declared.inflight.InflightOf.{InflightOf}
use Rattle.raft_progress.specs.declared.inflight.InflightOf.TheVariants.{None as Idle, Logs, Snapshot}

-- a log id is in a range or is the one before it, by order and by index
abbrev pub is_within : {C : Type 0} → (C → C → Ordering) → LogIdRangeOf C → Option (LogIdOf C)
    → Bool
is_within cmp range upto =
    id_le cmp range.prev upto && id_le cmp upto range.last
    && index_le (index_of range.prev) (index_of upto)
    && index_le (index_of upto) (index_of range.last)

-- the given result if the request is the one in flight, and otherwise the error that it is not
abbrev pub if_mine : {S : Type 0} → ℕ → ℕ → Result S InflightError → Result S InflightError
if_mine mine id answer = if mine == id then answer else Err (InvalidRequestId (Some mine) id)

-- the follower has all logs up to a log id: the logs after it stay in flight; a snapshot has
-- arrived
abbrev pub inflight_after_ack : {C : Type 0} → (C → C → Ordering) → InflightOf C → ℕ
    → Option (LogIdOf C)
    → Result (InflightOf C) InflightError
inflight_after_ack cmp Idle id upto = Err (InvalidRequestId None id)
inflight_after_ack cmp (Logs mine range) id upto =
    if_mine mine id (if is_within cmp range upto then Ok (logs_from cmp mine upto range.last)
    else Err AckOutOfRange)
inflight_after_ack cmp (Snapshot mine last) id upto =
    if_mine mine id (if id_lt cmp upto last then Err SnapshotAckRegress else Ok Idle)

-- the follower does not have the log before those in flight: nothing stays in flight
abbrev pub inflight_after_conflict : {C : Type 0} → InflightOf C → ℕ → ℕ
    → Result (InflightOf C) InflightError
inflight_after_conflict Idle id index = Err (InvalidRequestId None id)
inflight_after_conflict (Logs mine range) id index =
    if_mine mine id (if option_eq nat_eq (index_of range.prev) (Some index) then Ok Idle
    else Err ConflictNotAtPrev)
inflight_after_conflict (Snapshot mine last) id index = if_mine mine id (Err ConflictOnSnapshot)

-- a call does what a table says: the value becomes the table's value, or the error is the table's
-- error and the value is as it was
abbrev pub FollowsTable : {S E U : Type 0} → Result S E → S → Result U E → S → Type 0
FollowsTable (Ok s) old (Ok u) new = new ≡ s
FollowsTable (Err e) old (Err f) new = (f ≡ e) × (new ≡ old)
FollowsTable (Ok s) old (Err f) new = ⊥
FollowsTable (Err e) old (Ok u) new = ⊥
