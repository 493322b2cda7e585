-- An ack that is taken leaves a valid entry, whatever it was before.
use Rattle.std.proofs.Common.{◌≡◌, ℕ, ◌≤◌, Bool, true, false, nat_le, ◌==◌, if◌then◌else◌, Option, Some, None, Result, Ok, Err, ◌⊎◌, inl, inr, refl, sym, subst, arith}
use Rattle.std.proofs.lemmas.Bool.Decides.{nat_tests}
use Rattle.std.specs.Cmp.{IsTotalOrder}
use Rattle.std.specs.Option.{option_cmp}
use Rattle.std.specs.declared.cmp.Ordering.{Ordering}
use Rattle.raft_base.specs.LogId.{id_le, id_lt, log_id_cmp, next_index}
use Rattle.raft_base.specs.LogIdLawful.{optional-log_id_cmp-total}
use Rattle.raft_base.specs.Validate.{first_false}
use Rattle.raft_base.specs.declared.log_id.LogIdOf.{LogIdOf}
use Rattle.raft_base.specs.declared.log_id.log_id_range.LogIdRangeOf.{LogIdRangeOf}
use Rattle.raft_progress.specs.entry.EntryValid.{entry_relations, sending_relations}
use Rattle.raft_progress.specs.inflight.Inflight.{logs_from}
use Rattle.raft_progress.specs.inflight.InflightTable.{inflight_after_ack, is_within}
use Rattle.raft_progress.specs.declared.entry.ProgressEntryOf.{ProgressEntryOf}
use Rattle.raft_progress.specs.declared.inflight.InflightError.{InflightError}
use Rattle.raft_progress.specs.declared.inflight.InflightError.TheVariants.{AckOutOfRange, InvalidRequestId, SnapshotAckRegress}
use Rattle.raft_progress.specs.declared.inflight.InflightOf.{InflightOf}
use Rattle.raft_progress.specs.declared.inflight.InflightOf.TheVariants.{None as Idle, Logs, Snapshot}
use Rattle.raft_progress.proofs.lemmas.OrderLemmas.{AtMost-from_lt, AtMost-refl}

ok_inside : {S : Type 0} (x y : S) → (let r : Result S InflightError = Ok x in r) ≡ Ok y → y ≡ x
ok_inside x y h = cc

module _ {C : Type 0} (cmp : C → C → Ordering) where
  -- what is in flight after an ack that was taken: nothing, or the logs after it
  taken_leaves : (f : InflightOf C) (id : ℕ) (m : Option (LogIdOf C)) (after : InflightOf C) → inflight_after_ack cmp f id m ≡ Ok after
      → (after ≡ Idle) ⊎ ((mine : ℕ) × (last : Option (LogIdOf C)) × (after ≡ logs_from cmp mine m last))
  taken_leaves Idle id m after h = cc
  taken_leaves (Logs mine range) id m after h = by (mine == id) (is_within cmp range m) h
    where
      by : (t u : Bool) → (if t then (if u then Ok (logs_from cmp mine m range.last) else Err AckOutOfRange) else Err
          (InvalidRequestId (Some mine) id)) ≡ Ok after
          → (after ≡ Idle) ⊎ ((mine : ℕ) × (last : Option (LogIdOf C)) × (after ≡ logs_from cmp mine m last))
      by true true e = inr (mine, range.last, ok_inside (logs_from cmp mine m range.last) after e)
      by true false e = cc
      by false u e = cc
  taken_leaves (Snapshot mine last) id m after h = by (mine == id) (id_lt cmp m last) h
    where
      by : (t u : Bool) → (if t then (if u then Err SnapshotAckRegress else Ok Idle) else Err (InvalidRequestId (Some mine) id)) ≡ Ok after
          → (after ≡ Idle) ⊎ ((mine : ℕ) × (last : Option (LogIdOf C)) × (after ≡ logs_from cmp mine m last))
      by true true e = cc
      by true false e = inl (ok_inside Idle after e)
      by false u e = cc

  module _ (total : IsTotalOrder cmp) where
    -- logs after the match fit it
    logs_fit : (entry : ProgressEntryOf C) (mine : ℕ) (last : Option (LogIdOf C))
        → nat_le (next_index entry.matching) entry.searching_end ≡ true
        → first_false (sending_relations cmp entry (logs_from cmp mine entry.matching last)) ≡ None
    logs_fit entry mine last within = by (id_lt cmp entry.matching last)
        (λ h. AtMost-from_lt (option_cmp (log_id_cmp cmp)) entry.matching last h)
      where
        by : (t : Bool) → (t ≡ true → id_le cmp entry.matching last ≡ true)
            → first_false (sending_relations cmp entry
            (if t then Logs mine (let range : LogIdRangeOf C = record { prev = entry.matching; last = last } in range) else Idle))
            ≡ None
        by true le = rw (le refl, AtMost-refl (optional-log_id_cmp-total total) entry.matching, within) refl
        by false le = refl

    pub taken_is_valid : (entry : ProgressEntryOf C) (f : InflightOf C) (id : ℕ)
        → inflight_after_ack cmp f id entry.matching ≡ Ok entry.inflight → next_index entry.matching ≤ entry.searching_end
        → first_false (entry_relations cmp entry) ≡ None
    taken_is_valid entry f id taken le =
        let within : nat_le (next_index entry.matching) entry.searching_end ≡ true = grind (arith, nat_tests) in
        rw within (elim (taken_leaves f id entry.matching entry.inflight taken) [
          | inl idle ↦ subst (λ (g : InflightOf C). first_false (sending_relations cmp entry g) ≡ None) (sym idle) refl
          | inr logs ↦ subst (λ (g : InflightOf C). first_false (sending_relations cmp entry g) ≡ None) (sym logs.2)
              (logs_fit entry logs.0 logs.1 within)
        ])
