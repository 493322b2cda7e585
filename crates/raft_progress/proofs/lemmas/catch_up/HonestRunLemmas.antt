-- The turns of an honest run over a log that has all from the purge point on.
use Rattle.std.proofs.Common.{◌≡◌, ℕ, ◌+◌, ◌-◌, ◌^◌, ◌<◌, ◌≤◌, max, Bool, true, false, nat_eq, nat_lt, ◌==◌, Option, Some, None, Ok, Err, IsTrue, refl, arith, ◌⊎◌, inl, inr, ap}
use Rattle.std.proofs.lemmas.Bool.{cases_lt, le-ltb, lt-ltb}
use Rattle.std.proofs.lemmas.Bool.Decides.{nat_tests}
use Rattle.std.specs.declared.cmp.Ordering.{Ordering}
use Rattle.std.specs.Ordering.{nat_cmp, is_le}
use Rattle.std.specs.Option.{option_cmp, option_eq}
use Rattle.std.specs.Cmp.{IsTotalOrder, second_so}
use Rattle.std.proofs.lemmas.Cmp.{tied_itself}
use Rattle.raft_base.specs.LogId.{id_le, id_lt, index_of, log_id_cmp, next_index, same_ids}
use Rattle.raft_base.specs.LogIdLawful.{optional-log_id_cmp-total}
use Rattle.raft_base.specs.LogView.{LogView, prev_id}
use Rattle.raft_base.specs.Logged.{Logged}
use Rattle.raft_base.proofs.lemmas.log_id.LoggedLemmas.{prev_at, prev_rises}
use Rattle.raft_base.specs.declared.log_id.LogIdOf.{LogIdOf}
use Rattle.raft_base.specs.declared.log_id.log_id_range.LogIdRangeOf.{LogIdRangeOf}
use Rattle.raft_progress.specs.catch_up.CatchUp.{MatchesAll}
use Rattle.raft_progress.specs.catch_up.HonestRun.{turn}
use Rattle.raft_progress.specs.entry.EntryTable.{entry_after_conflict, entry_after_ack}
use Rattle.raft_progress.specs.entry.Send.{end_of, send_table, start_of}
use Rattle.raft_progress.specs.inflight.Inflight.{is_idle}
use Rattle.raft_base.specs.LogIndex.{index_le}
use Rattle.raft_progress.specs.Inner.Turns.{IsBetweenTurns}
use Rattle.raft_progress.specs.declared.entry.ProgressEntryOf.{ProgressEntryOf}
use Rattle.raft_progress.specs.declared.inflight.InflightOf.TheVariants.{None as Idle, Logs}
use Rattle.raft_progress.proofs.lemmas.OrderLemmas.{AtMost-from_lt, AtMost-refl, le_lt, not_lt-from_AtMost}

-- numbers as tests
eq_true : (a b : ℕ) → a ≡ b → (a == b) ≡ true
eq_true a b h = grind (arith, nat_tests)

eq_self : (a : ℕ) → (a == a) ≡ true
eq_self a = grind (arith, nat_tests)

same_index : (i j : ℕ) → nat_eq i j ≡ true → i ≡ j
same_index i j h = grind (arith, nat_tests)

same_number : (i : ℕ) → nat_eq i i ≡ true
same_number i = grind (arith, nat_tests)

cmp_le : (a b : ℕ) → a ≤ b → is_le (nat_cmp a b) ≡ true
cmp_le a b h = grind (arith, nat_tests)

index_from_next : {C : Type 0} (o : Option (LogIdOf C)) (i : ℕ) → next_index o ≡ i → 1 ≤ i → index_of o ≡ Some (i - 1)
index_from_next None i h l = absurd (omega arith)
index_from_next (Some x) i h l = ap Some (let e : x.index ≡ i - 1 = omega arith in e)

index_at_most : {C : Type 0} (a b : Option (LogIdOf C)) → next_index a ≤ next_index b → index_le (index_of a) (index_of b) ≡ true
index_at_most None None h = refl
index_at_most None (Some b) h = refl
index_at_most (Some a) None h = absurd (omega arith)
index_at_most (Some a) (Some b) h = cmp_le a.index b.index (omega arith)

-- the entry after a conflict, and after an ack
abbrev pub Refused : {C : Type 0} → LogView C → ProgressEntryOf C → ProgressEntryOf C
Refused log entry = record entry { curr_inflight_id = entry.curr_inflight_id + 1; inflight = Idle; searching_end = start_of entry log - 1 }

abbrev pub Acked : {C : Type 0} → LogView C → ℕ → ProgressEntryOf C → ProgressEntryOf C
Acked log n entry = record entry {
  matching = prev_id log.id_at (end_of entry log n);
  curr_inflight_id = entry.curr_inflight_id + 1;
  inflight = Idle;
  searching_end = max entry.searching_end (end_of entry log n);
}

module _ {C : Type 0} (eq : C → C → Bool) (cmp : C → C → Ordering) (total : IsTotalOrder cmp) (reflexive : (x : C) → eq x x ≡ true) where
  abbrev pub ids_cmp : Option (LogIdOf C) → Option (LogIdOf C) → Ordering
  ids_cmp a b = option_cmp (log_id_cmp cmp) a b

  pub ids_total : IsTotalOrder ids_cmp
  ids_total = optional-log_id_cmp-total total

  pub lt_itself : (a : Option (LogIdOf C)) → id_lt cmp a a ≡ false
  lt_itself a = rw (tied_itself ids_total a) refl

  same_next : (a b : Option (LogIdOf C)) → IsTrue (same_ids eq a b) → next_index a ≡ next_index b
  same_next None None h = refl
  same_next None (Some b) h = cc
  same_next (Some a) None h = cc
  same_next (Some a) (Some b) h = let i = same_index a.index b.index (second_so (eq a.leader_id b.leader_id) (nat_eq a.index b.index) h) in
      omega arith

  same_itself : (a : Option (LogIdOf C)) → same_ids eq a a ≡ true
  same_itself None = refl
  same_itself (Some a) = rw (reflexive a.leader_id, same_number a.index) refl

  module _ (log : LogView C) (logged : Logged cmp log) where
    module _ (n : ℕ) where
      -- the entry after a send of logs
      abbrev pub sending : ProgressEntryOf C → ProgressEntryOf C
      sending entry = record entry {
        curr_inflight_id = entry.curr_inflight_id + 1;
        inflight = Logs (entry.curr_inflight_id + 1)
            (record { prev = prev_id log.id_at (start_of entry log); last = prev_id log.id_at (end_of entry log n) });
      }

      -- if nothing is in flight and logs are sent, they are the ids from start to end
      pub sent_logs : (entry : ProgressEntryOf C) → is_idle entry.inflight ≡ true → next_index log.purge_upto ≤ entry.searching_end
          → start_of entry log < end_of entry log n → send_table cmp entry log n ≡ Ok (sending entry)
      sent_logs entry idle long lt =
          let t : nat_lt entry.searching_end (next_index log.purge_upto) ≡ false = grind (arith, nat_tests) in
          let u : (start_of entry log == end_of entry log n) ≡ false = grind (arith, nat_tests) in
          let v : id_lt cmp (prev_id log.id_at (start_of entry log)) (prev_id log.id_at (end_of entry log n)) ≡ true =
          prev_rises cmp log logged (start_of entry log) (end_of entry log n) (omega arith) lt (omega arith) in
          rw (idle, t, u, v) refl

      -- a follower that doesn't agree before the start
      pub refused_turn : (entry : ProgressEntryOf C) (agree : ℕ) → IsBetweenTurns eq cmp log n entry agree
          → start_of entry log < end_of entry log n → agree < start_of entry log
          → entry_after_conflict (sending entry) (Some (entry.curr_inflight_id + 1)) (start_of entry log - 1)
          ≡ Ok (record entry { curr_inflight_id = entry.curr_inflight_id + 1; inflight = Idle; searching_end = start_of entry log - 1 })
      refused_turn entry agree ready lt past =
          let r1 = ready.matched in let r2 = ready.agreed in let r3 = ready.logged in let r4 = ready.kept in
          let id = entry.curr_inflight_id + 1 in
          let at = prev_at cmp log logged (start_of entry log) (omega arith) (omega arith) in
          let index = index_from_next (prev_id log.id_at (start_of entry log)) (start_of entry log) at (omega arith) in
          let t : (id == id) ≡ true = eq_self id in
          let u : option_eq nat_eq (index_of (prev_id log.id_at (start_of entry log))) (Some (start_of entry log - 1)) ≡ true =
          rw (index, same_number (start_of entry log - 1)) refl in
          let v : nat_lt (start_of entry log - 1) entry.searching_end ≡ true =
          lt-ltb (start_of entry log - 1) entry.searching_end (omega arith) in
          let w : nat_lt (start_of entry log - 1) (next_index entry.matching) ≡ false =
          le-ltb (start_of entry log - 1) (next_index entry.matching) (omega arith) in
          rw (t, u, v, w) refl

      pub acked_turn : (entry : ProgressEntryOf C) (agree : ℕ) → IsBetweenTurns eq cmp log n entry agree
          → start_of entry log < end_of entry log n → start_of entry log ≤ agree
          → entry_after_ack cmp (sending entry) (entry.curr_inflight_id + 1) (prev_id log.id_at (end_of entry log n))
          ≡ Ok (record entry {
            matching = prev_id log.id_at (end_of entry log n);
            curr_inflight_id = entry.curr_inflight_id + 1;
            inflight = Idle;
            searching_end = max entry.searching_end (end_of entry log n);
          })
      acked_turn entry agree ready lt past =
          let r1 = ready.matched in let r2 = ready.agreed in let r3 = ready.logged in let r4 = ready.kept in
          let id = entry.curr_inflight_id + 1 in
          let from = start_of entry log in
          let to = end_of entry log n in
          let prev = prev_id log.id_at from in
          let last = prev_id log.id_at to in
          let at0 : next_index prev ≡ from = prev_at cmp log logged from (omega arith) (omega arith) in
          let at1 : next_index last ≡ to = prev_at cmp log logged to (omega arith) (omega arith) in
          let less : id_lt cmp prev last ≡ true = prev_rises cmp log logged from to (omega arith) lt (omega arith) in
          let t : (id == id) ≡ true = eq_self id in
          let b1 : id_le cmp prev last ≡ true = AtMost-from_lt ids_cmp prev last less in
          let b2 : id_le cmp last last ≡ true = AtMost-refl ids_total last in
          let b3 : index_le (index_of prev) (index_of last) ≡ true = index_at_most prev last (omega arith) in
          let b4 : index_le (index_of last) (index_of last) ≡ true = index_at_most last last (omega arith) in
          let none : id_lt cmp last last ≡ false = lt_itself last in
          let forward : id_lt cmp last entry.matching ≡ false = elim ready.left [
            | inl same ↦ absurd (let e = same_next entry.matching log.last same in omega arith)
            | inr more ↦ not_lt-from_AtMost ids_total entry.matching last
                (AtMost-from_lt ids_cmp entry.matching last (le_lt ids_total entry.matching
                (prev_id log.id_at (max (next_index entry.matching) (next_index log.purge_upto))) last more.2
                (prev_rises cmp log logged (max (next_index entry.matching) (next_index log.purge_upto)) to (omega arith) (omega arith)
                (omega arith))))
          ] in
          let small : nat_lt (next_index last) (2 ^ 64) ≡ true = lt-ltb (next_index last) (2 ^ 64) (let f = ready.fits in omega arith) in
          let end_is : max entry.searching_end (next_index last) ≡ max entry.searching_end to = rw at1 refl in
          rw (t, b1, b2, b3, b4, none, forward, small, end_is) refl

      -- what is in flight between turns: nothing, or logs
      abbrev pub Sends : ProgressEntryOf C → Type 0
      Sends entry = (start_of entry log < end_of entry log n) × (next_index entry.matching < next_index log.last)
          × (next_index log.purge_upto < next_index log.last)

      pub at_end : (entry : ProgressEntryOf C) (agree : ℕ) → IsBetweenTurns eq cmp log n entry agree
          → IsTrue (same_ids eq entry.matching log.last) → (send_table cmp entry log n ≡ Err entry) × MatchesAll eq log entry
      at_end entry agree ready same =
          let r1 = ready.matched in let r2 = ready.agreed in let r3 = ready.logged in let r4 = ready.kept in
          let e = same_next entry.matching log.last same in
          let t : nat_lt entry.searching_end (next_index log.purge_upto) ≡ false =
          le-ltb entry.searching_end (next_index log.purge_upto) (omega arith) in
          let s : start_of entry log ≡ end_of entry log n = omega arith in
          let u : (start_of entry log == end_of entry log n) ≡ true = eq_true (start_of entry log) (end_of entry log n) s in
          let v : nat_lt (next_index entry.matching) entry.searching_end ≡ false =
          le-ltb (next_index entry.matching) entry.searching_end (omega arith) in
          let i = ready.idle in
          (rw (i, t, u, v) refl, record { idle = ready.idle; match_end = e; search_end = omega arith; last = same })

      pub sends : (entry : ProgressEntryOf C) (agree : ℕ) → IsBetweenTurns eq cmp log n entry agree
          → (IsTrue (same_ids eq entry.matching log.last)) ⊎ Sends entry
      sends entry agree ready = elim ready.left [
        | inl same ↦ inl same
        | inr more ↦ (let r0 = ready.some in let r1 = ready.matched in let r2 = ready.agreed in let r3 = ready.logged in let r4 =
            ready.kept in let m0 = more.0 in let m1 = more.1 in inr (omega arith, m0, m1))
      ]

      pub turn_refused : (entry : ProgressEntryOf C) (agree c k : ℕ) → IsBetweenTurns eq cmp log n entry agree → Sends entry
          → agree < start_of entry log
          → turn cmp log n (record { entry = entry; agree = agree; conflicts = c; acks = k })
          ≡ Some (record {
            entry = record entry {
              curr_inflight_id = entry.curr_inflight_id + 1;
              inflight = Idle;
              searching_end = start_of entry log - 1;
            };
            agree = agree;
            conflicts = c + 1;
            acks = k;
          })
      turn_refused entry agree c k ready lt past =
          let r1 = ready.matched in let r2 = ready.agreed in let r3 = ready.logged in let r4 = ready.kept in
          let l0 = lt.0 in
          let sent_is = sent_logs entry ready.idle (omega arith) lt.0 in
          let at = prev_at cmp log logged (start_of entry log) (omega arith) (omega arith) in
          let t : nat_lt agree (next_index (prev_id log.id_at (start_of entry log))) ≡ true =
          lt-ltb agree (next_index (prev_id log.id_at (start_of entry log))) (omega arith) in
          let r = refused_turn entry agree ready lt.0 past in
          rw (sent_is, t, at, r) refl

      pub turn_acked : (entry : ProgressEntryOf C) (agree c k : ℕ) → IsBetweenTurns eq cmp log n entry agree → Sends entry
          → start_of entry log ≤ agree
          → turn cmp log n (record { entry = entry; agree = agree; conflicts = c; acks = k })
          ≡ Some (record {
            entry = record entry {
              matching = prev_id log.id_at (end_of entry log n);
              curr_inflight_id = entry.curr_inflight_id + 1;
              inflight = Idle;
              searching_end = max entry.searching_end (end_of entry log n);
            };
            agree = max agree (end_of entry log n);
            conflicts = c;
            acks = k + 1;
          })
      turn_acked entry agree c k ready lt past =
          let r1 = ready.matched in let r2 = ready.agreed in let r3 = ready.logged in let r4 = ready.kept in
          let l0 = lt.0 in
          let sent_is = sent_logs entry ready.idle (omega arith) lt.0 in
          let at = prev_at cmp log logged (start_of entry log) (omega arith) (omega arith) in
          let at1 = prev_at cmp log logged (end_of entry log n) (omega arith) (omega arith) in
          let t : nat_lt agree (next_index (prev_id log.id_at (start_of entry log))) ≡ false =
          le-ltb agree (next_index (prev_id log.id_at (start_of entry log))) (omega arith) in
          let r = acked_turn entry agree ready lt.0 past in
          rw (sent_is, t, r, at1) refl

      -- what is sent has an index that fits
      pub sent_fits : (entry new : ProgressEntryOf C) (agree id : ℕ) (range : LogIdRangeOf C) → IsBetweenTurns eq cmp log n entry agree
          → send_table cmp entry log n ≡ Ok new → new.inflight ≡ Logs id range → next_index range.last < 2 ^ 64
      sent_fits entry new agree id range ready ok logs = elim (sends entry agree ready) [
        | inl same ↦ (let e = (at_end entry agree ready same).0 in cc)
        | inr lt ↦ (let r2 = ready.agreed in let r4 = ready.kept in let l0 = lt.0 in let l1 = lt.1 in
            let sent_is = sent_logs entry ready.idle (omega arith) lt.0 in
            let last_is : range.last ≡ prev_id log.id_at (end_of entry log n) = cc in
            let at1 = prev_at cmp log logged (end_of entry log n) (omega arith) (omega arith) in
            let f = ready.fits in
            let is : next_index range.last ≡ end_of entry log n = rw last_is at1 in omega arith)
      ]

      -- logs are sent, or nothing
      pub sent_none : (entry new : ProgressEntryOf C) (agree : ℕ) → IsBetweenTurns eq cmp log n entry agree
          → send_table cmp entry log n ≡ Ok new → new.inflight ≡ Idle → ⊥
      sent_none entry new agree ready ok is = elim (sends entry agree ready) [
        | inl same ↦ (let e = (at_end entry agree ready same).0 in cc)
        | inr lt ↦ (let r2 = ready.agreed in let r4 = ready.kept in let sent_is = sent_logs entry ready.idle (omega arith) lt.0 in cc)
      ]

      pub ready_refused : (entry : ProgressEntryOf C) (agree : ℕ) → IsBetweenTurns eq cmp log n entry agree → Sends entry
          → agree < start_of entry log → IsBetweenTurns eq cmp log n
          (record entry { curr_inflight_id = entry.curr_inflight_id + 1; inflight = Idle; searching_end = start_of entry log - 1 }) agree
      ready_refused entry agree ready lt past =
          let r1 = ready.matched in let r2 = ready.agreed in let r3 = ready.logged in let r4 = ready.kept in
          record {
            idle = refl;
            some = ready.some;
            matched = r1;
            agreed = omega arith;
            logged = omega arith;
            kept = r4;
            fits = ready.fits;
            left = ready.left;
          }

      pub ready_acked : (entry : ProgressEntryOf C) (agree : ℕ) → IsBetweenTurns eq cmp log n entry agree → Sends entry
          → start_of entry log ≤ agree
          → IsBetweenTurns eq cmp log n (record entry {
            matching = prev_id log.id_at (end_of entry log n);
            curr_inflight_id = entry.curr_inflight_id + 1;
            inflight = Idle;
            searching_end = max entry.searching_end (end_of entry log n);
          }) (max agree (end_of entry log n))
      ready_acked entry agree ready lt past =
          let r1 = ready.matched in let r2 = ready.agreed in let r3 = ready.logged in let r4 = ready.kept in
          let l0 = lt.0 in let l1 = lt.1 in let l2 = lt.2 in
          let at1 = prev_at cmp log logged (end_of entry log n) (omega arith) (omega arith) in
          record {
            idle = refl;
            some = ready.some;
            matched = omega arith;
            agreed = omega arith;
            logged = omega arith;
            kept = omega arith;
            fits = ready.fits;
            left = elim (cases_lt (end_of entry log n) (next_index log.last)) [
              | inl below ↦ inr (
                omega arith,
                l2,
                (let top : max (next_index (prev_id log.id_at (end_of entry log n))) (next_index log.purge_upto) ≡ end_of entry log n =
                    omega arith in
                    rw top (AtMost-refl ids_total (prev_id log.id_at (end_of entry log n)))),
              )
              | inr past_end ↦ inl (let all : end_of entry log n ≡ next_index log.last = omega arith in
                  rw (all, logged.at_end) (same_itself log.last))
            ];
          }
