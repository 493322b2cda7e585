-- What is sent over a log that has all its log ids from the purge point on.
use Rattle.std.proofs.Common.{◌≡◌, ℕ, ◌+◌, ◌^◌, ◌<◌, ◌≤◌, Bool, true, false, ◌&&◌, nat_lt, nat_le, ◌==◌, Result, Ok, Err, IsTrue, refl, sym, subst, arith, inl, inr, ◌∙◌}
use Rattle.std.proofs.lemmas.Bool.{cases_lt, eq-eqb, le-ltb, leb-true, lt-ltb}
use Rattle.std.proofs.lemmas.Bool.Decides.{nat_tests}
use Rattle.std.specs.declared.cmp.Ordering.{Ordering}
use Rattle.raft_base.specs.LogId.{id_lt, next_index}
use Rattle.raft_base.specs.LogView.{LogView, prev_id}
use Rattle.raft_base.specs.Logged.{Logged}
use Rattle.raft_base.proofs.lemmas.log_id.LoggedLemmas.{prev_at, prev_rises}
use Rattle.raft_progress.specs.entry.Send.{can_send, end_of, send_table, start_of}
use Rattle.raft_progress.specs.inflight.Inflight.{is_idle}
use Rattle.raft_progress.specs.declared.entry.ProgressEntryOf.{ProgressEntryOf}
use Rattle.raft_progress.specs.declared.inflight.InflightOf.TheVariants.{Logs, Snapshot}
use Rattle.raft_state.specs.raft_state.Sending.{FromLog}

eq_false : (a b : ℕ) → a < b → (a == b) ≡ false
eq_false a b h = grind (arith, nat_tests)

-- of five tests that hold, the first one and the third one
first_and_third : (a b c d e : Bool) → a && b && c && d && e ≡ true → (a ≡ true) × (c ≡ true)
first_and_third true true true d e h = (refl, refl)
first_and_third true true false d e h = cc
first_and_third true false c d e h = cc
first_and_third false b c d e h = cc

ok_inside : {S E : Type 0} (x y : S) → (let r : Result S E = Ok x in r) ≡ Ok y → x ≡ y
ok_inside x y h = cc

not_both : {S E : Type 0} (e : E) (x : S) → (let r : Result S E = Err e in r) ≡ Ok x → ⊥
not_both e x h = cc

module _ {C : Type 0} (cmp : C → C → Ordering) (log : LogView C) (logged : Logged cmp log) where
  module _ (n : ℕ) where
    -- the entry once logs are sent from the start to the end
    abbrev with_logs : ProgressEntryOf C → ProgressEntryOf C
    with_logs entry = record entry {
      curr_inflight_id = entry.curr_inflight_id + 1;
      inflight = Logs (entry.curr_inflight_id + 1)
          (record { prev = prev_id log.id_at (start_of entry log); last = prev_id log.id_at (end_of entry log n) });
    }

    -- the entry once the snapshot is sent
    abbrev with_snapshot : ProgressEntryOf C → ProgressEntryOf C
    with_snapshot entry = record entry {
      curr_inflight_id = entry.curr_inflight_id + 1;
      inflight = Snapshot (entry.curr_inflight_id + 1) log.snapshot;
    }

    sent_logs : (entry : ProgressEntryOf C) → is_idle entry.inflight ≡ true → next_index log.purge_upto ≤ entry.searching_end
        → start_of entry log < end_of entry log n → send_table cmp entry log n ≡ Ok (with_logs entry)
    sent_logs entry idle long lt =
        let t : nat_lt entry.searching_end (next_index log.purge_upto) ≡ false =
        le-ltb entry.searching_end (next_index log.purge_upto) long in
        let u : (start_of entry log == end_of entry log n) ≡ false = eq_false (start_of entry log) (end_of entry log n) lt in
        let v : id_lt cmp (prev_id log.id_at (start_of entry log)) (prev_id log.id_at (end_of entry log n)) ≡ true =
        prev_rises cmp log logged (start_of entry log) (end_of entry log n) (omega arith) lt (omega arith) in
        rw (idle, t, u, v) refl

    -- what is sent is from the log
    pub sends_from_log : (entry new : ProgressEntryOf C) → is_idle entry.inflight ≡ true → IsTrue (can_send entry log)
        → send_table cmp entry log n ≡ Ok new → FromLog log n entry new.inflight
    sends_from_log entry new idle can ok =
        let two = first_and_third (nat_le (next_index entry.matching) entry.searching_end) (nat_lt (next_index log.last) (2 ^ 64))
        (nat_le entry.searching_end (next_index log.last)) (nat_lt (next_index log.purge_upto) (2 ^ 64))
        (nat_lt (entry.curr_inflight_id + 1) (2 ^ 64)) (rw idle at can) in
        let me : next_index entry.matching ≤ entry.searching_end = leb-true (next_index entry.matching) entry.searching_end two.0 in
        let el : entry.searching_end ≤ next_index log.last = leb-true entry.searching_end (next_index log.last) two.1 in
        let pl = logged.purged in
        elim (cases_lt entry.searching_end (next_index log.purge_upto)) [
          | inl short ↦ (let t : nat_lt entry.searching_end (next_index log.purge_upto) ≡ true =
              lt-ltb entry.searching_end (next_index log.purge_upto) short in
              let s : send_table cmp entry log n ≡ Ok (with_snapshot entry) = rw (idle, t) refl in
              subst (λ (x : ProgressEntryOf C). FromLog log n entry x.inflight) (ok_inside _ _ (sym s ∙ ok)) refl)
          | inr long ↦ elim (cases_lt (start_of entry log) (end_of entry log n)) [
            | inl lt ↦ subst (λ (x : ProgressEntryOf C). FromLog log n entry x.inflight)
                (ok_inside _ _ (sym (sent_logs entry idle long lt) ∙ ok)) (
                  refl,
                  prev_at cmp log logged (start_of entry log) (omega arith) (omega arith),
                  refl,
                  prev_at cmp log logged
                      (end_of entry log n) (omega arith) (omega arith),
                )
            | inr past ↦ (let t : nat_lt entry.searching_end (next_index log.purge_upto) ≡ false =
                le-ltb entry.searching_end (next_index log.purge_upto) long in
                let u : (start_of entry log == end_of entry log n) ≡ true =
                eq-eqb (start_of entry log) (end_of entry log n) (omega arith) in
                elim (cases_lt (next_index entry.matching) entry.searching_end) [
                  | inl wide ↦ (let v : nat_lt (next_index entry.matching) entry.searching_end ≡ true =
                      lt-ltb (next_index entry.matching) entry.searching_end wide in
                      let s : send_table cmp entry log n ≡ Ok (with_snapshot entry) = rw (idle, t, u, v) refl in
                      subst (λ (x : ProgressEntryOf C). FromLog log n entry x.inflight) (ok_inside _ _ (sym s ∙ ok)) refl)
                  | inr shut ↦ (let v : nat_lt (next_index entry.matching) entry.searching_end ≡ false =
                      le-ltb (next_index entry.matching) entry.searching_end shut in
                      let s : send_table cmp entry log n ≡ Err entry = rw (idle, t, u, v) refl in absurd (not_both entry new (sym s ∙ ok)))
                ])
          ]
        ]
