-- Counts of what a progress has done.
use Rattle.std.specs.Prelude.{◌≡◌, ℕ, ◌<◌, ◌≤◌, ◌+◌, ◌-◌, ◌*◌, ◌^◌, min}
use Rattle.raft_progress.specs.declared.progress.stat.Stat.{Stat}

-- nothing has been counted yet
abbrev pub no_counts : Stat
no_counts = record { update_count = 0; move_count = 0; is_quorum_count = 0 }

-- a count that stays at the greatest u64
abbrev pub count_after : ℕ → ℕ → ℕ
count_after old more = min (old + more) (2 ^ 64 - 1)

-- the counts have continued over some updates: each update is counted, with at most one move, and
-- with at most k quorum tests if the number of voters is less than 2^k
pub record CountsGoOn (updates voters : ℕ) (old new : Stat) : Type 0 where
  pub updated : new.update_count ≡ count_after old.update_count updates
  pub moved : (k : ℕ) × (k ≤ updates) × (new.move_count ≡ count_after old.move_count k)
  pub tested : (k : ℕ) × ((d : ℕ) → voters < 2 ^ d → k ≤ updates * d)
      × (new.is_quorum_count ≡ count_after old.is_quorum_count k)
