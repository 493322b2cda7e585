-- When the log of a state may be purged, and at which log id it then begins.
use Rattle.std.specs.Prelude.{◌+◌, ◌^◌, Bool, ◌&&◌, nat_le, nat_lt, List, Option, Some}
use Rattle.std.specs.Option.{option_or}
use Rattle.std.specs.declared.cmp.Ordering.{Ordering}
use Rattle.raft_base.specs.declared.log_id.LogIdOf.{LogIdOf}
use Rattle.raft_state.specs.log_id_list.FullLog.{first_index}
use Rattle.raft_state.specs.log_id_list.LogConditions.{can_purge}
use Rattle.raft_state.specs.log_id_list.LogReads.{id_at, last_id}

-- the list may be purged to the log id, whose index is not below the first one and has an index
-- after it
abbrev pub may_purge : {C : Type 0} → (C → C → Ordering) → List (LogIdOf C) → LogIdOf C → Bool
may_purge cmp log upto =
    can_purge cmp (last_id log) upto && nat_le (first_index log) upto.index
    && nat_lt (upto.index + 1) (2 ^ 64)

-- the first log id of a log after such a purge: the one at that index, or if there is none the log
-- id itself
abbrev pub first_after_purge : {C : Type 0} → List (LogIdOf C) → LogIdOf C → Option (LogIdOf C)
first_after_purge log upto = option_or (id_at log upto.index) (Some upto)
