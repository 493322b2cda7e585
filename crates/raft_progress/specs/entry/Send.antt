-- What is sent next to a follower, case by case.
use Rattle.std.specs.Prelude.{◌≡◌, ℕ, ◌+◌, ◌-◌, ◌*◌, ◌/◌, ◌^◌, min, max, Bool, true, ◌&&◌, ◌||◌, ◌==◌, nat_lt, nat_le, Result, Ok, Err, MatchResult, if◌then◌else◌}
use Rattle.std.specs.Borrow.{Bor}
use Rattle.std.specs.declared.cmp.Ordering.{Ordering}
use Rattle.raft_base.specs.LogId.{next_index}
use Rattle.raft_base.specs.LogView.{LogView, prev_id}
use Rattle.raft_progress.specs.inflight.Inflight.{is_idle, logs_from}
use Rattle.raft_progress.specs.declared.entry.ProgressEntryOf.{ProgressEntryOf}
use Rattle.raft_progress.specs.declared.inflight.InflightOf.{InflightOf}
use Rattle.raft_progress.specs.declared.inflight.InflightOf.TheVariants.{Snapshot}

-- the index at which the next probe between matching and the searching end starts: 8 indexes after
-- matching's next one for each whole 16 of the stretch
abbrev pub calc_mid : ℕ → ℕ → ℕ
calc_mid matched end = matched + (end - matched) / 16 * 8

-- the first index to send: the one of the next probe, but none that is to be purged
abbrev pub start_of : {C : Type 0} → ProgressEntryOf C → LogView C → ℕ
start_of entry log =
    max (calc_mid (next_index entry.matching) entry.searching_end) (next_index log.purge_upto)

-- the index after the last one to send: at most as many entries as allowed, and at most as many as
-- there are
abbrev pub end_of : {C : Type 0} → ProgressEntryOf C → LogView C → ℕ → ℕ
end_of entry log max_entries = min (start_of entry log + max_entries) (next_index log.last)

-- A send if nothing is in flight: a snapshot if the searching end is before the first index that is
-- not to be purged, or if there is no log to probe with; nothing if there is no log to send;
-- otherwise logs. What is sent has the next request id.
abbrev pub idle_send_table : {C : Type 0} → (C → C → Ordering) → ProgressEntryOf C → LogView C → ℕ
    → Result (ProgressEntryOf C) (ProgressEntryOf C)
idle_send_table cmp entry log max_entries =
    let matched = next_index entry.matching in
    let end = entry.searching_end in
    let purged = next_index log.purge_upto in
    let id = entry.curr_inflight_id + 1 in
    let start = start_of entry log in
    let until = end_of entry log max_entries in
    let snapshot = Snapshot id log.snapshot in
    let logs = logs_from cmp id (prev_id log.id_at start) (prev_id log.id_at until) in
    if nat_lt end purged || (start == until && nat_lt matched end)
    then Ok (record entry { curr_inflight_id = id; inflight = snapshot })
    else if start == until then Err entry
    else Ok (record entry { curr_inflight_id = id; inflight = logs })

-- the entry after a send, as Err if nothing was sent: something is in flight already, or there is
-- no log to send
abbrev pub send_table : {C : Type 0} → (C → C → Ordering) → ProgressEntryOf C → LogView C → ℕ
    → Result (ProgressEntryOf C) (ProgressEntryOf C)
send_table cmp entry log max_entries =
    if is_idle entry.inflight then idle_send_table cmp entry log max_entries else Err entry

-- a send may be made if something is in flight; otherwise, matching must be below the searching
-- end, the searching end must not be past the log, and neither an index nor the request id may be
-- the greatest u64
abbrev pub can_send : {C : Type 0} → ProgressEntryOf C → LogView C → Bool
can_send entry log =
    if is_idle entry.inflight then
    (nat_le (next_index entry.matching) entry.searching_end
    && nat_lt (next_index log.last) (2 ^ 64) && nat_le entry.searching_end (next_index log.last)
    && nat_lt (next_index log.purge_upto) (2 ^ 64) && nat_lt (entry.curr_inflight_id + 1) (2 ^ 64))
    else true

-- a send returns what is in flight after it, as Ok or Err, as the table has it
abbrev pub IsSent : {C : Type 0} → Result (ProgressEntryOf C) (ProgressEntryOf C)
    → Result (Bor (InflightOf C)) (Bor (InflightOf C)) → ProgressEntryOf C → Type 0
IsSent table result new =
    MatchResult result (λ sending. (table ≡ Ok new) × (sending.now ≡ new.inflight))
    (λ sending. (table ≡ Err new) × (sending.now ≡ new.inflight))
