-- An honest run: sends to a follower whose log agrees with the leader's below an
-- index, each with its honest response.
use Rattle.std.specs.Prelude.{◌≡◌, ℕ, zero, suc, ◌+◌, ◌-◌, max, nat_lt, Option, Some, None, Result, Ok, Err, if◌then◌else◌}
use Rattle.std.specs.declared.cmp.Ordering.{Ordering}
use Rattle.raft_base.specs.LogId.{next_index}
use Rattle.raft_base.specs.LogView.{LogView}
use Rattle.raft_base.specs.declared.log_id.log_id_range.LogIdRangeOf.{LogIdRangeOf}
use Rattle.raft_progress.specs.entry.EntryTable.{entry_after_conflict, entry_after_ack}
use Rattle.raft_progress.specs.entry.Send.{send_table}
use Rattle.raft_progress.specs.search.Search.{after_response}
use Rattle.raft_progress.specs.declared.entry.ProgressEntryOf.{ProgressEntryOf}
use Rattle.raft_progress.specs.declared.inflight.InflightOf.{InflightOf}
use Rattle.raft_progress.specs.declared.inflight.InflightOf.TheVariants.{None as Idle, Logs, Snapshot}

-- the entry, the index below which the follower's log agrees, and the numbers of conflicts and acks
pub record HonestRun (C : Type 0) : Type 0 where
  pub entry : ProgressEntryOf C
  pub agree : ℕ
  pub conflicts : ℕ
  pub acks : ℕ

-- the response to logs: a conflict at the log before them if the follower does not agree there, and
-- otherwise an ack of all of them
abbrev pub run_after_logs : {C : Type 0} → (C → C → Ordering) → HonestRun C → ProgressEntryOf C → ℕ
    → LogIdRangeOf C → HonestRun C
run_after_logs cmp run entry id range =
    if nat_lt run.agree (next_index range.prev)
    then record {
      entry = after_response entry (entry_after_conflict entry (Some id) (next_index range.prev - 1));
      agree = run.agree;
      conflicts = run.conflicts + 1;
      acks = run.acks;
    }
    else record {
      entry = after_response entry (entry_after_ack cmp entry id range.last);
      agree = max run.agree (next_index range.last);
      conflicts = run.conflicts;
      acks = run.acks + 1;
    }

-- the response to what an entry has in flight; only logs have a response
abbrev pub run_after_response : {C : Type 0} → (C → C → Ordering) → HonestRun C → ProgressEntryOf C
    → InflightOf C → HonestRun C
run_after_response cmp run entry Idle = record run { entry = entry }
run_after_response cmp run entry (Snapshot id last) = record run { entry = entry }
run_after_response cmp run entry (Logs id range) = run_after_logs cmp run entry id range

-- the response to a send, and none if nothing was sent
abbrev pub run_after_send : {C : Type 0} → (C → C → Ordering) → HonestRun C
    → Result (ProgressEntryOf C) (ProgressEntryOf C) → Option (HonestRun C)
run_after_send cmp run (Err entry) = None
run_after_send cmp run (Ok entry) = Some (run_after_response cmp run entry entry.inflight)

-- a turn: a send and its response
abbrev pub turn : {C : Type 0} → (C → C → Ordering) → LogView C → ℕ → HonestRun C
    → Option (HonestRun C)
turn cmp log max_entries run = run_after_send cmp run (send_table cmp run.entry log max_entries)

-- that many turns lead to an end, after which nothing is sent
abbrev pub TurnsLeadTo : {C : Type 0} → (C → C → Ordering) → LogView C → ℕ → ℕ → HonestRun C
    → HonestRun C → Type 0
TurnsLeadTo cmp log max_entries zero run end = (turn cmp log max_entries run ≡ None) × (end ≡ run)
TurnsLeadTo {C} cmp log max_entries (suc turns) run end =
    (next : HonestRun C) × (turn cmp log max_entries run ≡ Some next)
    × TurnsLeadTo cmp log max_entries turns next end

-- an honest run that begins with an entry and an index below which the follower agrees
abbrev pub new_run : {C : Type 0} → ProgressEntryOf C → ℕ → HonestRun C
new_run entry agree = record { entry = entry; agree = agree; conflicts = 0; acks = 0 }

module _ {C : Type 0} (cmp : C → C → Ordering) (log : LogView C) (max_entries : ℕ) where
  -- the honest run of an entry ends with another one, after that many conflicts and acks
  abbrev pub HonestRunEnds : ProgressEntryOf C → ℕ → ProgressEntryOf C → ℕ → ℕ → Type 0
  HonestRunEnds entry agree end conflicts acks =
      (turns : ℕ) × (agreed : ℕ)
      × TurnsLeadTo cmp log max_entries turns (new_run entry agree)
      (record { entry = end; agree = agreed; conflicts = conflicts; acks = acks })
