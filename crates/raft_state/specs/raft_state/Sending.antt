-- What is sent over a log that has all its log ids from the purge point on.
use Rattle.std.specs.Prelude.{◌≡◌, ℕ, Ok, IsTrue}
use Rattle.std.specs.declared.cmp.Ordering.{Ordering}
use Rattle.raft_base.specs.LogId.{next_index}
use Rattle.raft_base.specs.LogView.{LogView, prev_id}
use Rattle.raft_base.specs.Logged.{Logged}
use Rattle.raft_progress.specs.entry.Send.{can_send, end_of, send_table, start_of}
use Rattle.raft_progress.specs.inflight.Inflight.{is_idle}
use Rattle.raft_progress.specs.declared.entry.ProgressEntryOf.{ProgressEntryOf}
use Rattle.raft_progress.specs.declared.inflight.InflightOf.{InflightOf}
use Rattle.raft_progress.specs.declared.inflight.InflightOf.TheVariants.{None as Idle, Logs, Snapshot}

-- logs from the start of a send to its end, with the log ids of the log at both ends and with their
-- indexes; or the snapshot; and never nothing
abbrev pub FromLog : {C : Type 0} → LogView C → ℕ → ProgressEntryOf C → InflightOf C → Type 0
FromLog log max_entries entry Idle = ⊥
FromLog log max_entries entry (Snapshot id last) = last ≡ log.snapshot
FromLog log max_entries entry (Logs id range) =
    (range.prev ≡ prev_id log.id_at (start_of entry log))
    × (next_index range.prev ≡ start_of entry log)
    × (range.last ≡ prev_id log.id_at (end_of entry log max_entries))
    × (next_index range.last ≡ end_of entry log max_entries)

-- if nothing is in flight and a send may be made over such a log, what is sent is from the log
abbrev pub SendsFromLog : {C : Type 0} → (C → C → Ordering) → Type 0
SendsFromLog {C} cmp =
    (log : LogView C) (entry new : ProgressEntryOf C) (max_entries : ℕ) → Logged cmp log
    → IsTrue (is_idle entry.inflight) → IsTrue (can_send entry log)
    → send_table cmp entry log max_entries ≡ Ok new → FromLog log max_entries entry new.inflight
