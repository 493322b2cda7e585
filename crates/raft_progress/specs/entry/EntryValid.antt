-- When a progress entry is valid.
use Rattle.std.specs.Prelude.{Bool, nat_le, List, [], ◌∷◌}
use Rattle.std.specs.declared.cmp.Ordering.{Ordering}
use Rattle.raft_base.specs.LogId.{id_le, id_lt, next_index}
use Rattle.raft_base.specs.declared.log_id.validate.Invalid.{Invalid}
use Rattle.raft_base.specs.declared.log_id.validate.Invalid.TheVariants.{MatchingPastEnd, RangeOrder, MatchingPastPrev, PrevPastEnd, SnapshotNotPastMatching}
use Rattle.raft_progress.specs.declared.entry.ProgressEntryOf.{ProgressEntryOf}
use Rattle.raft_progress.specs.declared.inflight.InflightOf.{InflightOf}
use Rattle.raft_progress.specs.declared.inflight.InflightOf.TheVariants.{None as Idle, Logs, Snapshot}

-- logs in flight are a range in order, begin at or after matching, and before the searching end; a
-- snapshot goes past matching
abbrev pub sending_relations : {C : Type 0} → (C → C → Ordering) → ProgressEntryOf C → InflightOf C
    → List (Bool × Invalid)
sending_relations cmp entry Idle = []
sending_relations cmp entry (Logs id range) =
    (id_le cmp range.prev range.last, RangeOrder)
    ∷ (id_le cmp entry.matching range.prev, MatchingPastPrev)
    ∷ (nat_le (next_index range.prev) entry.searching_end, PrevPastEnd)
    ∷ []
sending_relations cmp entry (Snapshot id last) =
    (id_lt cmp entry.matching last, SnapshotNotPastMatching) ∷ []

-- matching is below the searching end, and what is in flight fits both
abbrev pub entry_relations : {C : Type 0} → (C → C → Ordering) → ProgressEntryOf C
    → List (Bool × Invalid)
entry_relations cmp entry =
    (nat_le (next_index entry.matching) entry.searching_end, MatchingPastEnd)
    ∷ sending_relations cmp entry entry.inflight
