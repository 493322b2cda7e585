-- What a follower's response makes of its progress entry, case by case.
use Rattle.std.specs.Prelude.{ℕ, ◌^◌, max, nat_lt, Option, Some, None, Result, Ok, Err, if◌then◌else◌}
use Rattle.std.specs.declared.cmp.Ordering.{Ordering}
use Rattle.raft_base.specs.LogId.{id_lt, next_index}
use Rattle.raft_base.specs.declared.log_id.LogIdOf.{LogIdOf}
use Rattle.raft_progress.specs.inflight.InflightTable.{inflight_after_ack, inflight_after_conflict}
use Rattle.raft_progress.specs.declared.entry.ProgressEntryOf.{ProgressEntryOf}
use Rattle.raft_progress.specs.declared.inflight.InflightError.{InflightError}
use Rattle.raft_progress.specs.declared.inflight.InflightError.TheVariants.{ConflictBelowMatching, IndexTooLarge, MatchingRegress}
use Rattle.raft_progress.specs.declared.inflight.InflightOf.{InflightOf}

-- the follower matches up to a log id, after the ack of it has left this in flight
abbrev pub with_matching : {C : Type 0} → (C → C → Ordering) → ProgressEntryOf C
    → Option (LogIdOf C)
    → Result (InflightOf C) InflightError → Result (ProgressEntryOf C) InflightError
with_matching cmp entry matching (Err e) = Err e
with_matching cmp entry matching (Ok inflight) =
    if id_lt cmp matching entry.matching then Err MatchingRegress
    else (if nat_lt (next_index matching) (2 ^ 64)
    then Ok (record entry {
      matching = matching;
      inflight = inflight;
      searching_end = max entry.searching_end (next_index matching);
    })
    else Err IndexTooLarge)

-- an ack of all logs up to a log id: the follower matches up to it
abbrev pub entry_after_ack : {C : Type 0} → (C → C → Ordering) → ProgressEntryOf C → ℕ
    → Option (LogIdOf C)
    → Result (ProgressEntryOf C) InflightError
entry_after_ack cmp entry id matching =
    with_matching cmp entry matching (inflight_after_ack cmp entry.inflight id matching)

-- the searching end becomes an index if it was past the index, after the conflict there has left
-- this in flight
abbrev pub with_search_end : {C : Type 0} → ProgressEntryOf C → ℕ
    → Result (InflightOf C) InflightError
    → Result (ProgressEntryOf C) InflightError
with_search_end entry index (Err e) = Err e
with_search_end entry index (Ok inflight) =
    if nat_lt index entry.searching_end
    then (if nat_lt index (next_index entry.matching) then Err ConflictBelowMatching
    else Ok (record entry { inflight = inflight; searching_end = index }))
    else Ok (record entry { inflight = inflight })

-- a conflict at an index: the follower does not match there; the response to a heartbeat has no
-- request id, and what is in flight stays
abbrev pub entry_after_conflict : {C : Type 0} → ProgressEntryOf C → Option ℕ → ℕ
    → Result (ProgressEntryOf C) InflightError
entry_after_conflict entry None index = with_search_end entry index (Ok entry.inflight)
entry_after_conflict entry (Some id) index =
    with_search_end entry index (inflight_after_conflict entry.inflight id index)
