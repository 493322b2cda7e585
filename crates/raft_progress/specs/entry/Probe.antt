-- What the next request to a follower makes of its entry, if probes without entries are sent too.
use Rattle.std.specs.Prelude.{ℕ, ◌+◌, ◌%◌, Bool, ◌&&◌, nat_le, nat_lt, min, Option, Some, None, if◌then◌else◌}
use Rattle.std.specs.Option.{option_map, option_or}
use Rattle.std.specs.declared.cmp.Ordering.{Ordering}
use Rattle.raft_base.specs.LogId.{next_index}
use Rattle.raft_base.specs.LogView.{LogView, prev_id}
use Rattle.raft_base.specs.declared.log_id.LogIdOf.{LogIdOf}
use Rattle.raft_progress.specs.entry.Request.{after_request}
use Rattle.raft_progress.specs.entry.Send.{can_send}
use Rattle.raft_progress.specs.inflight.Inflight.{is_idle}
use Rattle.raft_progress.specs.declared.entry.ProgressEntryOf.{ProgressEntryOf}
use Rattle.raft_progress.specs.declared.inflight.InflightOf.TheVariants.{Logs}

-- the last log id that both logs have is searched for: 16 or more indexes are between what a follower
-- matches and the searching end
abbrev pub is_searched : {C : Type 0} → ProgressEntryOf C → Bool
is_searched entry = nat_le (next_index entry.matching + 16) entry.searching_end

-- how many entries a request has at most: one in a search
abbrev pub limit_of : {C : Type 0} → ProgressEntryOf C → ℕ → ℕ
limit_of entry max_entries = if is_searched entry then min max_entries 1 else max_entries

-- the next request of a search is a probe: of eight numbers the first two are those of probes, if a
-- send is allowed and nothing is in flight
abbrev pub is_probe_due : {C : Type 0} → ProgressEntryOf C → LogView C → Bool
is_probe_due entry log =
    is_idle entry.inflight && is_searched entry && nat_lt (entry.curr_inflight_id % 8) 2
    && can_send entry log

-- what is known of a follower once a probe is in flight, which has no entries and the next number, and
-- asks for a log id
abbrev pub with_probe : {C : Type 0} → ProgressEntryOf C → LogIdOf C → ProgressEntryOf C
with_probe entry prev =
    record entry {
      curr_inflight_id = entry.curr_inflight_id + 1;
      inflight = Logs (entry.curr_inflight_id + 1) (record { prev = Some prev; last = Some prev });
    }

-- a probe asks for the log id before the searching end, if it is due and the log has that log id
abbrev pub after_probe : {C : Type 0} → ProgressEntryOf C → LogView C → Option (ProgressEntryOf C)
after_probe entry log =
    if is_probe_due entry log
    then option_map (with_probe entry) (prev_id log.id_at entry.searching_end) else None

-- what is known of a follower once something is sent to it: a probe, or what the search or the log
-- gives
abbrev pub after_send : {C : Type 0} → (C → C → Ordering) → ProgressEntryOf C → LogView C → ℕ
    → Option (ProgressEntryOf C)
after_send cmp entry log max_entries =
    option_or (after_probe entry log)
    (after_request cmp entry log (limit_of entry max_entries))
