-- The log as its readers see it.
use Rattle.std.specs.Prelude.{ℕ, zero, suc, Bool, true, nat_lt, Option, Some, None, if◌then◌else◌}
use Rattle.std.specs.declared.cmp.Ordering.{Ordering}
use Rattle.raft_base.specs.LogId.{id_le, next_index, same_ids}
use Rattle.raft_base.specs.declared.log_id.LogIdOf.{LogIdOf}

-- the log id at each index, and the log ids up to which the log is committed, applied, in a
-- snapshot and purged
pub record LogView (C : Type 0) : Type 0 where
  pub id_at : ℕ → Option (LogIdOf C)
  pub last : Option (LogIdOf C)
  pub committed : Option (LogIdOf C)
  pub snapshot : Option (LogIdOf C)
  pub purge_upto : Option (LogIdOf C)
  pub last_purged : Option (LogIdOf C)
  pub io_applied : Option (LogIdOf C)
  pub io_snapshot : Option (LogIdOf C)
  pub io_purged : Option (LogIdOf C)

-- the log id before an index, and none before 0
abbrev pub prev_id : {C : Type 0} → (ℕ → Option (LogIdOf C)) → ℕ → Option (LogIdOf C)
prev_id id_at zero = None
prev_id id_at (suc i) = id_at i

-- `has_log_id` may be called for a log id up to the committed index only if it is at most the
-- committed log id
abbrev pub may_ask : {C : Type 0} → (C → C → Ordering) → LogView C → LogIdOf C → Bool
may_ask cmp log id =
    if nat_lt id.index (next_index log.committed) then id_le cmp (Some id) log.committed else true

-- up to the committed index the log has each log id, and past it the log id that is at that index
abbrev pub has_id : {C : Type 0} → (C → C → Bool) → LogView C → LogIdOf C → Bool
has_id eq log id =
    if nat_lt id.index (next_index log.committed) then true
    else same_ids eq (log.id_at id.index) (Some id)
