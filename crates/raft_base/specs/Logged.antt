-- A log that has all its log ids from the purge point on.
use Rattle.std.specs.Prelude.{◌≡◌, ℕ, ◌+◌, ◌<◌, ◌≤◌, Some, IsTrue}
use Rattle.std.specs.declared.cmp.Ordering.{Ordering}
use Rattle.raft_base.specs.LogId.{id_lt, next_index}
use Rattle.raft_base.specs.LogView.{LogView, prev_id}
use Rattle.raft_base.specs.declared.log_id.LogIdOf.{LogIdOf}

-- there is a log id at index i, and it has that index
abbrev pub HasIdAt : {C : Type 0} → LogView C → ℕ → Type 0
HasIdAt {C} log i = (id : LogIdOf C) × (log.id_at i ≡ Some id) × (id.index ≡ i)

-- from the index of the purge point (or 0 if there is none) to the last index, each log id is
-- there; the log ids rise, and the one at the last index is the last log id
pub record Logged {C : Type 0} (cmp : C → C → Ordering) (log : LogView C) : Type 0 where
  pub purged : next_index log.purge_upto ≤ next_index log.last
  pub has_each : (i : ℕ) → next_index log.purge_upto ≤ i + 1 → i < next_index log.last → HasIdAt log i
  pub rises : (i j : ℕ) → next_index log.purge_upto ≤ i + 1 → i < j → j < next_index log.last
      → IsTrue (id_lt cmp (log.id_at i) (log.id_at j))
  pub at_end : prev_id log.id_at (next_index log.last) ≡ log.last
