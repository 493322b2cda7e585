-- The log ids of a sound state, as the proofs take them.
use Rattle.std.proofs.Common.{◌≡◌, ◌<◌, ◌≤◌, ℕ, suc, List, Some}
use Rattle.raft_base.specs.LogId.{next_index}
use Rattle.raft_base.specs.declared.log_id.LogIdOf.{LogIdOf}
use Rattle.raft_state.specs.log_id_list.LogReads.{id_at, last_id}

-- the log ids of a sound state: each index from the last one that is purged up to the end has its log
-- id, and there are no others
pub record IsWhole {C : Type 0} (purged_next : ℕ) (ids : List (LogIdOf C)) : Type 0 where
  pub present : (i : ℕ) → purged_next ≤ suc i → i < next_index (last_id ids)
      → (y : LogIdOf C) × (id_at ids i ≡ Some y)
  pub within : (i : ℕ) (y : LogIdOf C) → id_at ids i ≡ Some y → i < next_index (last_id ids)
  pub purged_within : purged_next ≤ next_index (last_id ids)
  pub at_end : (z : LogIdOf C) → last_id ids ≡ Some z → id_at ids z.index ≡ Some z
