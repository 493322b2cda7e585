-- Which responses come too late.
use Rattle.std.specs.Prelude.{◌≡◌, ℕ, Option, Some, Err}
use Rattle.std.specs.declared.cmp.Ordering.{Ordering}
use Rattle.raft_base.specs.declared.log_id.LogIdOf.{LogIdOf}
use Rattle.raft_progress.specs.entry.EntryTable.{entry_after_ack, entry_after_conflict}
use Rattle.raft_progress.specs.inflight.Inflight.{id_of}
use Rattle.raft_progress.specs.declared.entry.ProgressEntryOf.{ProgressEntryOf}
use Rattle.raft_progress.specs.declared.inflight.InflightError.TheVariants.{InvalidRequestId}

-- an ack and a conflict that respond to the request with this id are refused, because it is not in
-- flight
pub record RefusesResponsesTo {C : Type 0} (cmp : C → C → Ordering) (entry : ProgressEntryOf C)
    (id : ℕ) : Type 0 where
  pub acks : (matching : Option (LogIdOf C))
      → entry_after_ack cmp entry id matching ≡ Err (InvalidRequestId (id_of entry.inflight) id)
  pub conflicts : (index : ℕ)
      → entry_after_conflict entry (Some id) index
      ≡ Err (InvalidRequestId (id_of entry.inflight) id)
