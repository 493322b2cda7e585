-- Progress entries to which a send may be made, now or when nothing is in flight, and what keeps
-- them so.
use Rattle.std.specs.Prelude.{◌≡◌, ℕ, ◌+◌, ◌^◌, ◌<◌, ◌≤◌, true, Option, Ok}
use Rattle.std.specs.declared.cmp.Ordering.{Ordering}
use Rattle.raft_base.specs.LogId.{next_index}
use Rattle.raft_base.specs.LogView.{LogView}
use Rattle.raft_base.specs.declared.log_id.LogIdOf.{LogIdOf}
use Rattle.raft_progress.specs.entry.EntryTable.{entry_after_ack, entry_after_conflict}
use Rattle.raft_progress.specs.entry.Send.{can_send, send_table}
use Rattle.raft_progress.specs.inflight.Inflight.{is_idle, is_sending_snapshot}
use Rattle.raft_progress.specs.declared.entry.ProgressEntryOf.{ProgressEntryOf}
use Rattle.raft_progress.specs.declared.inflight.InflightOf.{InflightOf}
use Rattle.raft_progress.specs.declared.inflight.InflightOf.TheVariants.{None as Idle, Logs, Snapshot}

-- the index after the last log id that is in flight, and 0 if nothing is
abbrev pub end_in_flight : {C : Type 0} → InflightOf C → ℕ
end_in_flight Idle = 0
end_in_flight (Logs id range) = next_index range.last
end_in_flight (Snapshot id last) = next_index last

-- matching is below the searching end; neither the searching end nor what is in flight is past the
-- log; and neither an index nor the request id is the greatest u64
pub record IsSendable {C : Type 0} (entry : ProgressEntryOf C) (log : LogView C) : Type 0 where
  pub matched : next_index entry.matching ≤ entry.searching_end
  pub searched : entry.searching_end ≤ next_index log.last
  pub in_flight : end_in_flight entry.inflight ≤ next_index log.last
  pub last : next_index log.last < 2 ^ 64
  pub purged : next_index log.purge_upto < 2 ^ 64
  pub request : entry.curr_inflight_id + 1 < 2 ^ 64

module _ (C : Type 0) where
  -- if nothing is in flight and a send may be made, the entry is sendable
  abbrev pub BeginsSendable : Type 0
  BeginsSendable =
      (entry : ProgressEntryOf C) (log : LogView C) → is_idle entry.inflight ≡ true
      → can_send entry log ≡ true → IsSendable entry log

  -- if an entry is sendable, a send may be made
  abbrev pub SendableCanSend : Type 0
  SendableCanSend =
      (entry : ProgressEntryOf C) (log : LogView C) → IsSendable entry log
      → can_send entry log ≡ true

  -- an accepted conflict keeps an entry sendable
  abbrev pub ConflictKeepsSendable : Type 0
  ConflictKeepsSendable =
      (entry new : ProgressEntryOf C) (log : LogView C) (id : Option ℕ) (index : ℕ)
      → IsSendable entry log → entry_after_conflict entry id index ≡ Ok new → IsSendable new log

  -- giving up what is in flight keeps an entry sendable
  abbrev pub GiveUpKeepsSendable : Type 0
  GiveUpKeepsSendable =
      (entry : ProgressEntryOf C) (log : LogView C) → IsSendable entry log
      → IsSendable (record entry { inflight = Idle }) log

  -- growth of the log keeps an entry sendable, whatever else changes in the log
  abbrev pub GrowthKeepsSendable : Type 0
  GrowthKeepsSendable =
      (entry : ProgressEntryOf C) (log later : LogView C)
      → next_index log.last ≤ next_index later.last → next_index later.last < 2 ^ 64
      → next_index later.purge_upto < 2 ^ 64 → IsSendable entry log → IsSendable entry later

module _ (C : Type 0) (cmp : C → C → Ordering) where
  -- an accepted ack keeps an entry sendable, if an ack of a snapshot is not past the log
  abbrev pub AckKeepsSendable : Type 0
  AckKeepsSendable =
      (entry new : ProgressEntryOf C) (log : LogView C) (id : ℕ) (matching : Option (LogIdOf C))
      → (is_sending_snapshot entry.inflight ≡ true → next_index matching ≤ next_index log.last)
      → IsSendable entry log → entry_after_ack cmp entry id matching ≡ Ok new → IsSendable new log

  -- a send keeps an entry sendable, if the log has what its snapshot has, and another request id is
  -- left
  abbrev pub SendKeepsSendable : LogView C → Type 0
  SendKeepsSendable log =
      (entry sent : ProgressEntryOf C) (max_entries : ℕ)
      → next_index log.snapshot ≤ next_index log.last → entry.curr_inflight_id + 2 < 2 ^ 64
      → IsSendable entry log → send_table cmp entry log max_entries ≡ Ok sent
      → IsSendable sent log
