-- Which responses an entry refuses by their id.
use Rattle.std.specs.Prelude.{◌≡◌, ℕ, ◌+◌, ◌==◌, ◌&&◌, ◌||◌, nat_lt, Bool, true, false, cond, Option, Some, Result, Ok, Err, refl, if◌then◌else◌}
use Rattle.std.specs.declared.cmp.Ordering.{Ordering}
use Rattle.std.proofs.Common.{ap, ◌∙◌}
use Rattle.std.proofs.lemmas.Bool.{ne_eqb}
use Rattle.raft_base.specs.LogId.{next_index}
use Rattle.raft_base.specs.LogView.{LogView, prev_id}
use Rattle.raft_base.specs.declared.log_id.LogIdOf.{LogIdOf}
use Rattle.raft_base.specs.declared.log_id.log_id_range.LogIdRangeOf.{LogIdRangeOf}
use Rattle.raft_progress.specs.entry.EntryTable.{with_matching, with_search_end}
use Rattle.raft_progress.specs.entry.LateResponse.{RefusesResponsesTo}
use Rattle.raft_progress.specs.entry.Send.{end_of, idle_send_table, start_of}
use Rattle.raft_progress.specs.inflight.Inflight.{id_of, logs_from}
use Rattle.raft_progress.specs.inflight.InflightTable.{inflight_after_ack, inflight_after_conflict}
use Rattle.raft_progress.specs.declared.entry.ProgressEntryOf.{ProgressEntryOf}
use Rattle.raft_progress.specs.declared.inflight.InflightError.TheVariants.{InvalidRequestId}
use Rattle.raft_progress.specs.declared.inflight.InflightOf.{InflightOf}
use Rattle.raft_progress.specs.declared.inflight.InflightOf.TheVariants.{None as Idle, Logs, Snapshot}
use Rattle.raft_progress.proofs.lemmas.ListLemmas.{some_inside}

module _ {C : Type 0} (cmp : C → C → Ordering) where
  ack_refused : (entry : ProgressEntryOf C) (inflight : InflightOf C) (id : ℕ) (matching : Option (LogIdOf C))
      → (id_of inflight ≡ Some id → ⊥) → with_matching cmp entry matching (inflight_after_ack cmp inflight id matching)
      ≡ Err (InvalidRequestId (id_of inflight) id)
  ack_refused entry Idle id matching n = refl
  ack_refused entry (Logs mine range) id matching n = let e : (mine == id) ≡ false = ne_eqb mine id (λ h. n (ap Some h)) in rw e refl
  ack_refused entry (Snapshot mine last) id matching n = let e : (mine == id) ≡ false = ne_eqb mine id (λ h. n (ap Some h)) in rw e refl

  conflict_refused : (entry : ProgressEntryOf C) (inflight : InflightOf C) (id index : ℕ) → (id_of inflight ≡ Some id → ⊥)
      → with_search_end entry index (inflight_after_conflict inflight id index) ≡ Err (InvalidRequestId (id_of inflight) id)
  conflict_refused entry Idle id index n = refl
  conflict_refused entry (Logs mine range) id index n = let e : (mine == id) ≡ false = ne_eqb mine id (λ h. n (ap Some h)) in rw e refl
  conflict_refused entry (Snapshot mine last) id index n = let e : (mine == id) ≡ false = ne_eqb mine id (λ h. n (ap Some h)) in rw e refl

  -- responses to a request that is not in flight are refused
  pub refuses_others : (entry : ProgressEntryOf C) (id : ℕ) → (id_of entry.inflight ≡ Some id → ⊥) → RefusesResponsesTo cmp entry id
  refuses_others entry id n = record {
    acks = λ matching. ack_refused entry entry.inflight id matching n;
    conflicts = λ index. conflict_refused entry entry.inflight id index n;
  }

  logs_have : (b : Bool) (mine id : ℕ) (range : LogIdRangeOf C) → id_of (cond b (Logs mine range) Idle) ≡ Some id → mine ≡ id
  logs_have true mine id range h = some_inside mine id h
  logs_have false mine id range h = cc

  sent_is : (sent sending : ProgressEntryOf C) (mine id : ℕ)
      → ◌≡◌ {A = Result (ProgressEntryOf C) (ProgressEntryOf C)} (Ok sending) (Ok sent) → (id_of sending.inflight ≡ Some id → mine ≡ id)
      → id_of sent.inflight ≡ Some id → mine ≡ id
  sent_is sent sending mine id e has h = let same : sending ≡ sent = cc in has (ap (λ s. id_of s.inflight) same ∙ h)

  -- if nothing was in flight, what is sent has the next id, if it has one
  pub sends_next : (entry sent : ProgressEntryOf C) (log : LogView C) (max_entries id : ℕ)
      → idle_send_table cmp entry log max_entries ≡ Ok sent → id_of sent.inflight ≡ Some id → entry.curr_inflight_id + 1 ≡ id
  sends_next entry sent log max_entries id e h =
      by (nat_lt entry.searching_end (next_index log.purge_upto)
      || (start_of entry log == end_of entry log max_entries && nat_lt (next_index entry.matching) entry.searching_end))
      (start_of entry log == end_of entry log max_entries) e
    where
      by : (b c : Bool)
          → (if b then Ok (record entry {
            curr_inflight_id = entry.curr_inflight_id + 1;
            inflight = Snapshot (entry.curr_inflight_id + 1) log.snapshot;
          })
          else if c then Err entry
          else Ok (record entry {
            curr_inflight_id = entry.curr_inflight_id + 1;
            inflight = logs_from cmp (entry.curr_inflight_id + 1) (prev_id log.id_at (start_of entry log))
                (prev_id log.id_at (end_of entry log max_entries));
          }))
          ≡ Ok sent
          → entry.curr_inflight_id + 1 ≡ id
      by true c is = sent_is sent _ (entry.curr_inflight_id + 1) id is (λ k. some_inside (entry.curr_inflight_id + 1) id k) h
      by false true is = cc
      by false false is = sent_is sent _ (entry.curr_inflight_id + 1) id is (λ k. logs_have _ (entry.curr_inflight_id + 1) id _ k) h
