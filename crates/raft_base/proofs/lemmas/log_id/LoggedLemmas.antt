-- A log that has all its log ids from the purge point on.
use Rattle.std.proofs.Common.{◌≡◌, ℕ, zero, suc, ◌<◌, ◌≤◌, true, refl, arith}
use Rattle.std.specs.declared.cmp.Ordering.{Ordering}
use Rattle.raft_base.specs.LogId.{id_lt, next_index}
use Rattle.raft_base.specs.LogView.{LogView, prev_id}
use Rattle.raft_base.specs.Logged.{Logged}

module _ {C : Type 0} (cmp : C → C → Ordering) (log : LogView C) (logged : Logged cmp log) where
  -- the log id before index a, for an index from the purge point's to the last one
  pub prev_at : (a : ℕ) → next_index log.purge_upto ≤ a → a ≤ next_index log.last → next_index (prev_id log.id_at a) ≡ a
  prev_at zero low high = refl
  prev_at (suc i) low high = let h = logged.has_each i (omega arith) (omega arith) in rw h.1 (let e = h.2 in omega arith)

  -- log ids rise with their indexes
  pub prev_rises : (a b : ℕ) → next_index log.purge_upto ≤ a → a < b → b ≤ next_index log.last
      → id_lt cmp (prev_id log.id_at a) (prev_id log.id_at b) ≡ true
  prev_rises zero zero low lt high = absurd (omega arith)
  prev_rises (suc i) zero low lt high = absurd (omega arith)
  prev_rises zero (suc j) low lt high = let h = logged.has_each j (omega arith) (omega arith) in rw h.1 refl
  prev_rises (suc i) (suc j) low lt high = logged.rises i j (omega arith) (omega arith) (omega arith)
