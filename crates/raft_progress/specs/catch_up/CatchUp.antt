-- When a follower can be caught up, and when it is.
use Rattle.std.specs.Prelude.{◌≡◌, ℕ, ◌+◌, ◌^◌, Bool, true, ◌&&◌, ◌||◌, nat_le, nat_lt, max, IsTrue}
use Rattle.std.specs.declared.cmp.Ordering.{Ordering}
use Rattle.raft_base.specs.LogId.{id_le, next_index, same_ids}
use Rattle.raft_base.specs.LogView.{LogView, prev_id}
use Rattle.raft_progress.specs.entry.Send.{can_send}
use Rattle.raft_progress.specs.inflight.Inflight.{is_idle}
use Rattle.raft_progress.specs.declared.entry.ProgressEntryOf.{ProgressEntryOf}

-- a follower can agree below an index: matching and the purge point are below it, and the searching
-- end is not
abbrev pub can_agree : ℕ → ℕ → ℕ → ℕ → Bool
can_agree matched end purged agree = nat_le matched agree && nat_le agree end && nat_le purged agree

-- enough request ids are left for a run over a log of this length
abbrev pub has_request_ids : ℕ → ℕ → Bool
has_request_ids id length = nat_lt (id + 64 + length + 1) (2 ^ 64)

-- matching is the last log id; or the log continues past matching and the purge point, and matching
-- is not above the log id before both
abbrev pub match_fits : {C : Type 0} → (C → C → Bool) → (C → C → Ordering) → LogView C
    → ProgressEntryOf C → Bool
match_fits eq cmp log entry =
    same_ids eq entry.matching log.last
    || (nat_lt (next_index entry.matching) (next_index log.last)
    && nat_lt (next_index log.purge_upto) (next_index log.last)
    && id_le cmp entry.matching
    (prev_id log.id_at (max (next_index entry.matching) (next_index log.purge_upto))))

-- nothing is in flight, a send can be made and takes at least one entry, the follower can agree
-- below the index, request ids are left, and matching fits
abbrev pub can_catch_up : {C : Type 0} → (C → C → Bool) → (C → C → Ordering) → LogView C
    → ProgressEntryOf C → ℕ → ℕ → Bool
can_catch_up eq cmp log entry agree max_entries =
    is_idle entry.inflight && can_send entry log && nat_le 1 max_entries
    && can_agree (next_index entry.matching) entry.searching_end (next_index log.purge_upto) agree
    && has_request_ids entry.curr_inflight_id (next_index log.last)
    && match_fits eq cmp log entry

-- all is sent and matches: nothing is in flight, the searching end is after the last log id, and
-- matching is the last log id
pub record MatchesAll {C : Type 0} (eq : C → C → Bool) (log : LogView C) (entry : ProgressEntryOf C)
    : Type 0 where
  pub idle : is_idle entry.inflight ≡ true
  pub match_end : next_index entry.matching ≡ next_index log.last
  pub search_end : entry.searching_end ≡ next_index log.last
  pub last : IsTrue (same_ids eq entry.matching log.last)
