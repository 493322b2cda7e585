-- An honest run between its turns, and what one turn does.
use Rattle.std.specs.Prelude.{◌≡◌, ℕ, ◌+◌, ◌<◌, ◌≤◌, ◌^◌, ◌⊎◌, max, Bool, true, Some, None, IsTrue}
use Rattle.std.specs.declared.cmp.Ordering.{Ordering}
use Rattle.raft_base.specs.LogId.{id_le, next_index, same_ids}
use Rattle.raft_base.specs.LogView.{LogView, prev_id}
use Rattle.raft_progress.specs.catch_up.CatchUp.{MatchesAll}
use Rattle.raft_progress.specs.catch_up.HonestRun.{turn}
use Rattle.raft_progress.specs.inflight.Inflight.{is_idle}
use Rattle.raft_progress.specs.declared.catch_up.TurnOutcome.{TurnOutcome}
use Rattle.raft_progress.specs.declared.catch_up.TurnOutcome.TheVariants.{Ended, Refused, Acked}
use Rattle.raft_progress.specs.declared.entry.ProgressEntryOf.{ProgressEntryOf}

-- what holds at the beginning of a run and between its turns
pub record IsBetweenTurns {C : Type 0} (eq : C → C → Bool) (cmp : C → C → Ordering)
    (log : LogView C) (n : ℕ)
    (entry : ProgressEntryOf C) (agree : ℕ) : Type 0 where
  pub idle : is_idle entry.inflight ≡ true
  pub some : 1 ≤ n
  pub matched : next_index entry.matching ≤ agree
  pub agreed : agree ≤ entry.searching_end
  pub logged : entry.searching_end ≤ next_index log.last
  pub kept : next_index log.purge_upto ≤ agree
  pub fits : next_index log.last < 2 ^ 64
  pub left : IsTrue (same_ids eq entry.matching log.last)
      ⊎ ((next_index entry.matching < next_index log.last)
      × (next_index log.purge_upto < next_index log.last)
      × IsTrue (id_le cmp entry.matching
      (prev_id log.id_at (max (next_index entry.matching) (next_index log.purge_upto)))))

module _ {C : Type 0} (eq : C → C → Bool) (cmp : C → C → Ordering) (log : LogView C) (n : ℕ) where
  -- a turn, for any counts before it: nothing was sent and all logs match, or the response was one
  -- more conflict or ack
  abbrev pub TurnDone : ProgressEntryOf C → ℕ → TurnOutcome → ProgressEntryOf C → ℕ → Type 0
  TurnDone entry agree Ended new after =
      ((c k : ℕ) → turn cmp log n (record { entry = entry; agree = agree; conflicts = c; acks = k })
      ≡ None) × (new ≡ entry) × (after ≡ agree) × MatchesAll eq log entry
  TurnDone entry agree Refused new after =
      (c k : ℕ) → turn cmp log n (record { entry = entry; agree = agree; conflicts = c; acks = k })
      ≡ Some (record { entry = new; agree = after; conflicts = c + 1; acks = k })
  TurnDone entry agree Acked new after =
      (c k : ℕ) → turn cmp log n (record { entry = entry; agree = agree; conflicts = c; acks = k })
      ≡ Some (record { entry = new; agree = after; conflicts = c; acks = k + 1 })
