-- A whole honest run: what its test says, and what holds between its turns.
use Rattle.std.proofs.Common.{◌≡◌, ℕ, suc, ◌+◌, ◌-◌, ◌*◌, ◌^◌, ◌<◌, ◌≤◌, max, Bool, true, false, nat_eq, nat_le, nat_lt, if◌then◌else◌, Option, Some, None, Result, Ok, Err, IsTrue, refl, sym, ap, arith, ◌⊎◌, inl, inr, ◌∙◌, ◌&&◌, ◌||◌}
use Rattle.std.proofs.Math.Nat.{suc-mul}
use Rattle.std.proofs.lemmas.Bool.{cases_lt, leb-true, ltb-true}
use Rattle.std.proofs.lemmas.Bool.Decides.{nat_tests}
use Rattle.std.specs.Borrow.{Bor}
use Rattle.std.specs.declared.cmp.Ordering.{Ordering}
use Rattle.std.specs.Ordering.{eq_by_cmp, is_eq, nat_cmp}
use Rattle.std.specs.Cmp.{IsTotalOrder, first_so, second_so}
use Rattle.std.specs.Option.{option_cmp}
use Rattle.std.specs.Result.{is_err}
use Rattle.raft_base.specs.LogId.{id_le, id_lt, log_id_cmp, next_index, same_ids}
use Rattle.raft_base.specs.LogView.{LogView, prev_id}
use Rattle.raft_base.specs.Logged.{Logged}
use Rattle.raft_base.proofs.lemmas.log_id.LoggedLemmas.{prev_at, prev_rises}
use Rattle.raft_base.specs.declared.log_id.LogIdOf.{LogIdOf}
use Rattle.raft_base.specs.declared.log_id.log_id_range.LogIdRangeOf.{LogIdRangeOf}
use Rattle.raft_members.proofs.lemmas.membership.AddedLemmas.{is_equal}
use Rattle.raft_progress.specs.catch_up.CatchUp.{MatchesAll, can_agree, can_catch_up, has_request_ids, match_fits}
use Rattle.raft_progress.specs.catch_up.HonestRun.{HonestRun, HonestRunEnds, TurnsLeadTo, new_run, run_after_response, run_after_logs, turn}
use Rattle.raft_progress.specs.entry.EntryTable.{entry_after_ack}
use Rattle.raft_progress.specs.entry.Send.{IsSent, can_send, end_of, send_table, start_of}
use Rattle.raft_progress.specs.inflight.Inflight.{is_idle}
use Rattle.raft_progress.specs.inflight.InflightTable.{FollowsTable}
use Rattle.raft_progress.specs.Inner.Turns.{IsBetweenTurns}
use Rattle.raft_progress.specs.search.Search.{after_response}
use Rattle.raft_progress.specs.declared.entry.ProgressEntryOf.{ProgressEntryOf}
use Rattle.raft_progress.specs.declared.inflight.InflightError.{InflightError}
use Rattle.raft_progress.specs.declared.inflight.InflightOf.{InflightOf}
use Rattle.raft_progress.specs.declared.inflight.InflightOf.TheVariants.{Logs}
use Rattle.raft_progress.proofs.lemmas.search.HalvingLemmas.{Near}
use Rattle.raft_progress.proofs.lemmas.catch_up.HonestRunLemmas.{Acked, Refused, Sends, at_end, ids_total, ready_acked, ready_refused, sends, turn_acked, turn_refused}
use Rattle.raft_progress.proofs.lemmas.catch_up.HonestTurnLemmas.{Stands, ack_falls, ack_near, conflict_falls, conflict_halves, measure}
use Rattle.raft_progress.proofs.lemmas.OrderLemmas.{AtMost-from_lt, le_lt, le_of_eq}
use Rattle.raft_progress.proofs.lemmas.ListLemmas.{of_both, some_inside}

-- a send that is no error is the table's
pub sent_ok : {C : Type 0} (table : Result (ProgressEntryOf C) (ProgressEntryOf C))
    (result : Result (Bor (InflightOf C)) (Bor (InflightOf C))) (new : ProgressEntryOf C) → is_err result ≡ false → IsSent table result new
    → table ≡ Ok new
sent_ok table (Ok sending) new h is = is.0
sent_ok table (Err sending) new h is = cc

or_split : (a b : Bool) → (a || b) ≡ true → (a ≡ true) ⊎ (b ≡ true)
or_split true b h = inl refl
or_split false b h = inr h

index_tie : (i j : ℕ) → nat_eq i j ≡ true → is_eq (nat_cmp i j) ≡ true
index_tie i j h = grind (arith, nat_tests)

-- tests in a row
three : (a b c : Bool) → (a && b && c) ≡ true → (a ≡ true) × (b ≡ true) × (c ≡ true)
three a b c h = let p = of_both (a && b) c h in let q = of_both a b p.0 in (q.0, q.1, p.1)

five : (a b c d e : Bool) → (a && b && c && d && e) ≡ true → (a ≡ true) × (b ≡ true) × (c ≡ true) × (d ≡ true) × (e ≡ true)
five a b c d e h = let p = of_both (a && b && c && d) e h in let q = of_both (a && b && c) d p.0 in let r = three a b c q.0 in
    (r.0, r.1, r.2, q.1, p.1)

module _ {C : Type 0} (eq : C → C → Bool) (cmp : C → C → Ordering) where
  fits_left : (log : LogView C) (entry : ProgressEntryOf C) → match_fits eq cmp log entry ≡ true
      → IsTrue (same_ids eq entry.matching log.last)
      ⊎ ((next_index entry.matching < next_index log.last) × (next_index log.purge_upto < next_index log.last)
      × IsTrue (id_le cmp entry.matching (prev_id log.id_at (max (next_index entry.matching) (next_index log.purge_upto)))))
  fits_left log entry h = elim (or_split (same_ids eq entry.matching log.last) _ h) [
    | inl same ↦ inl same
    | inr ahead ↦ (let q = three _ _ _ ahead in inr (ltb-true _ _ q.0, ltb-true _ _ q.1, q.2))
  ]

  -- what the test says
  pub ready_from : (log : LogView C) (n : ℕ) (entry : ProgressEntryOf C) (agree : ℕ) → can_catch_up eq cmp log entry agree n ≡ true
      → IsBetweenTurns eq cmp log n entry agree × (entry.curr_inflight_id + 64 + next_index log.last + 1 < 2 ^ 64)
  ready_from log n entry agree can =
      let p = of_both (is_idle entry.inflight && can_send entry log && nat_le 1 n
      && can_agree (next_index entry.matching) entry.searching_end (next_index log.purge_upto) agree
      && has_request_ids entry.curr_inflight_id (next_index log.last)) (match_fits eq cmp log entry) can in
      let q = five (is_idle entry.inflight) (can_send entry log) (nat_le 1 n)
      (can_agree (next_index entry.matching) entry.searching_end (next_index log.purge_upto) agree)
      (has_request_ids entry.curr_inflight_id (next_index log.last)) p.0 in
      let s = five (nat_le (next_index entry.matching) entry.searching_end) (nat_lt (next_index log.last) (2 ^ 64))
      (nat_le entry.searching_end (next_index log.last)) (nat_lt (next_index log.purge_upto) (2 ^ 64))
      (nat_lt (entry.curr_inflight_id + 1) (2 ^ 64)) (rw q.0 at q.1) in
      let a = three (nat_le (next_index entry.matching) agree) (nat_le agree entry.searching_end) (nat_le (next_index log.purge_upto) agree)
      q.3 in (
        record {
          idle = q.0;
          some = leb-true 1 n q.2;
          matched = leb-true _ _ a.0;
          agreed = leb-true _ _ a.1;
          logged = leb-true _ _ s.2;
          kept = leb-true _ _ a.2;
          fits = ltb-true _ _ s.1;
          left = fits_left log entry p.1;
        },
        ltb-true _ _ q.4,
      )

-- from a start to here: a run, with that many conflicts and acks
pub record Along {C : Type 0} (eq : C → C → Bool) (cmp : C → C → Ordering) (log : LogView C) (n : ℕ) (entry0 : ProgressEntryOf C)
    (agree0 : ℕ) (entry : ProgressEntryOf C) (agree conflicts acks : ℕ) : Type 0 where
  pub ready : IsBetweenTurns eq cmp log n entry agree
  pub runs : (turns : ℕ) (end : HonestRun C)
      → TurnsLeadTo cmp log n turns (record { entry = entry; agree = agree; conflicts = conflicts; acks = acks }) end
      → (t : ℕ) × TurnsLeadTo cmp log n t (new_run entry0 agree0) end
  pub near : (k : ℕ) → Near k (entry0.searching_end - next_index entry0.matching)
      → (b : ℕ) × (conflicts + b ≡ k) × Near b (entry.searching_end - next_index entry.matching)
  pub part : next_index entry.matching < next_index log.last → acks * n ≤ next_index entry.matching - next_index entry0.matching
  pub all : acks * n < (next_index log.last - next_index entry0.matching) + n
  pub first : next_index entry0.matching ≤ next_index entry.matching
  pub ids : entry.curr_inflight_id ≡ entry0.curr_inflight_id + conflicts + acks
  pub many : acks ≤ next_index entry.matching - next_index entry0.matching

more_times : (k n : ℕ) → (k + 1) * n ≡ k * n + n
more_times k n = let e : k + 1 ≡ suc k = omega arith in rw e (suc-mul k n)

none_if : (t : Bool) (x : ℕ) → (if t then Some x else None) ≡ None → t ≡ false
none_if true x h = cc
none_if false x h = refl

pub kept_after : {S E U : Type 0} (r : Result S E) (old : S) (result : Result U E) (new : S) → FollowsTable r old result new
    → after_response old r ≡ new
kept_after (Ok s) old (Ok u) new h = sym h
kept_after (Ok s) old (Err e) new h = absurd h
kept_after (Err e) old (Ok u) new h = absurd h
kept_after (Err e) old (Err f) new h = sym h.1

pub acks_logs : {C U : Type 0} (cmp : C → C → Ordering) (old entry new : ProgressEntryOf C) (agree after c k id : ℕ)
    (range : LogIdRangeOf C) (result : Result U InflightError)
    → (if nat_lt agree (next_index range.prev) then Some (next_index range.prev - 1) else None) ≡ None
    → FollowsTable (entry_after_ack cmp entry id range.last) entry result new → after ≡ max agree (next_index range.last)
    → run_after_logs cmp (record { entry = old; agree = agree; conflicts = c; acks = k }) entry id range
    ≡ record { entry = new; agree = after; conflicts = c; acks = k + 1 }
acks_logs cmp old entry new agree after c k id range result none answer is =
    rw (
      none_if (nat_lt agree (next_index range.prev)) (next_index range.prev - 1) none,
      kept_after
          (entry_after_ack cmp entry id range.last) entry result new answer,
      is,
    ) refl

pub turn_logs : {C : Type 0} (cmp : C → C → Ordering) (log : LogView C) (n : ℕ) (entry sending new : ProgressEntryOf C)
    (agree after c k d l id : ℕ) (range : LogIdRangeOf C) → send_table cmp entry log n ≡ Ok sending → sending.inflight ≡ Logs id range
    → run_after_logs cmp (record { entry = entry; agree = agree; conflicts = c; acks = k }) sending id range
    ≡ record { entry = new; agree = after; conflicts = d; acks = l }
    → turn cmp log n (record { entry = entry; agree = agree; conflicts = c; acks = k })
    ≡ Some (record { entry = new; agree = after; conflicts = d; acks = l })
turn_logs cmp log n entry sending new agree after c k d l id range ok logs response =
    rw ok (ap Some (ap (λ (f : InflightOf _). run_after_response cmp (record { entry = entry; agree = agree; conflicts = c; acks = k })
    sending
    f) logs ∙ response))

-- how far a run still is from its end
abbrev pub to_go : {C : Type 0} → LogView C → ProgressEntryOf C → ℕ
to_go log entry = measure (next_index entry.matching) entry.searching_end (next_index log.last)

module _ {C : Type 0} (eq : C → C → Bool) (cmp : C → C → Ordering) (total : IsTotalOrder cmp) (reflexive : (x : C) → eq x x ≡ true)
    (log : LogView C) (logged : Logged cmp log) (n : ℕ) where
  stands : (entry : ProgressEntryOf C) (agree : ℕ) → IsBetweenTurns eq cmp log n entry agree
      → Stands (next_index entry.matching) entry.searching_end (next_index log.last) (next_index log.purge_upto) agree
  stands entry agree ready = record { matched = ready.matched; agreed = ready.agreed; logged = ready.logged; kept = ready.kept }

  module _ (entry0 : ProgressEntryOf C) (agree0 : ℕ) where
    abbrev pub Here : ProgressEntryOf C → ℕ → ℕ → ℕ → Type 0
    Here entry agree conflicts acks = Along eq cmp log n entry0 agree0 entry agree conflicts acks

    pub begins : IsBetweenTurns eq cmp log n entry0 agree0 → Here entry0 agree0 0 0
    begins ready = record {
      ready = ready;
      runs = λ turns end r. (turns, r);
      near = λ k h. (k, omega arith, h);
      part = λ lt. omega arith;
      all = (let s = ready.some in omega arith);
      first = omega arith;
      ids = omega arith;
      many = omega arith;
    }

    refuse : (entry : ProgressEntryOf C) (agree c k : ℕ) → Here entry agree c k → Sends eq cmp total reflexive log logged n entry
        → agree < start_of entry log → Here (Refused log entry) agree (c + 1) k × (to_go log (Refused log entry) < to_go log entry)
    refuse entry agree c k here lt past =
        let ready = here.ready in
        let s = stands entry agree ready in
        let ids = here.ids in (
          record {
            ready = ready_refused eq cmp total reflexive log logged n entry agree ready lt past;
            runs = λ turns end r. here.runs (suc turns) end (
              record { entry = Refused log entry; agree = agree; conflicts = c + 1; acks = k },
              turn_refused eq cmp total reflexive log
                  logged n entry agree c k ready lt past,
              r,
            );
            near = λ j h. (let b = here.near j h in
                let q = conflict_halves (next_index entry.matching) entry.searching_end (next_index log.last) (next_index log.purge_upto)
                agree s b.0 past b.2 in
                let b1 = b.1 in let q1 = q.1 in (q.0, omega arith, q.2));
            part = here.part;
            all = here.all;
            first = here.first;
            ids = omega arith;
            many = here.many;
          },
          conflict_falls (next_index entry.matching) entry.searching_end (next_index log.last) (next_index log.purge_upto) agree s past,
        )

    acknowledge : (entry : ProgressEntryOf C) (agree c k : ℕ) → Here entry agree c k → Sends eq cmp total reflexive log logged n entry
        → start_of entry log ≤ agree → Here (Acked log n entry) (max agree (end_of entry log n)) c (k + 1)
        × (to_go log (Acked log n entry) < to_go log entry)
    acknowledge entry agree c k here lt past =
        let ready = here.ready in
        let s = stands entry agree ready in
        let ids = here.ids in
        let l0 = lt.0 in let l1 = lt.1 in let l2 = lt.2 in
        let r2 = ready.agreed in let r4 = ready.kept in
        let at1 : next_index (prev_id log.id_at (end_of entry log n)) ≡ end_of entry log n =
        prev_at cmp log logged (end_of entry log n) (omega arith) (omega arith) in
        let times = more_times k n in
        let part = here.part l1 in
        let first = here.first in
        let many = here.many in (
          record {
            ready = ready_acked eq cmp total reflexive log logged n entry agree ready lt past;
            runs = λ turns end r. here.runs (suc turns) end (
              record { entry = Acked log n entry; agree = max agree (end_of entry log n); conflicts = c; acks = k + 1 },
              turn_acked eq
                  cmp total reflexive log logged n entry agree c k ready lt past,
              r,
            );
            near = λ j h. (let b = here.near j h in (
              b.0,
              b.1,
              rw at1 (ack_near (next_index entry.matching) entry.searching_end (next_index log.last)
                  (next_index log.purge_upto) agree s n ready.some l1 l2 past b.0 b.2),
            ));
            part = λ below. omega arith;
            all = omega arith;
            first = omega arith;
            ids = omega arith;
            many = omega arith;
          },
          rw at1 (ack_falls (next_index entry.matching) entry.searching_end (next_index log.last) (next_index log.purge_upto) agree s n
              ready.some l1 l2 past),
        )

    -- a turn that was refused, or acked
    pub along_refused : (entry new : ProgressEntryOf C) (agree after c k : ℕ) → Here entry agree c k
        → turn cmp log n (record { entry = entry; agree = agree; conflicts = c; acks = k })
        ≡ Some (record { entry = new; agree = after; conflicts = c + 1; acks = k })
        → Here new after (c + 1) k × (to_go log new < to_go log entry)
    along_refused entry new agree after c k here t = elim (sends eq cmp total reflexive log logged n entry agree here.ready) [
      | inl same ↦ (let e = (at_end eq cmp total reflexive log logged n entry agree here.ready same).0 in
          let none : turn cmp log n (record { entry = entry; agree = agree; conflicts = c; acks = k }) ≡ None = rw e refl in absurd (cc))
      | inr lt ↦ elim (cases_lt agree (start_of entry log)) [
        | inl past ↦ (let q = turn_refused eq cmp total reflexive log logged n entry agree c k here.ready lt past in
            let f = some_inside _ _ (sym q ∙ t) in
            let e : Refused log entry ≡ new = ap (λ (h : HonestRun C). h.entry) f in let a : agree ≡ after =
            ap (λ (h : HonestRun C). h.agree) f in
            rw (← e, ← a) (refuse entry agree c k here lt past))
        | inr past ↦ (let q = turn_acked eq cmp total reflexive log logged n entry agree c k here.ready lt past in
            let f = some_inside _ _ (sym q ∙ t) in
            let e : c ≡ c + 1 = ap (λ (h : HonestRun C). h.conflicts) f in absurd (omega arith))
      ]
    ]

    pub along_acked : (entry new : ProgressEntryOf C) (agree after c k : ℕ) → Here entry agree c k
        → turn cmp log n (record { entry = entry; agree = agree; conflicts = c; acks = k })
        ≡ Some (record { entry = new; agree = after; conflicts = c; acks = k + 1 })
        → Here new after c (k + 1) × (to_go log new < to_go log entry)
    along_acked entry new agree after c k here t = elim (sends eq cmp total reflexive log logged n entry agree here.ready) [
      | inl same ↦ (let e = (at_end eq cmp total reflexive log logged n entry agree here.ready same).0 in
          let none : turn cmp log n (record { entry = entry; agree = agree; conflicts = c; acks = k }) ≡ None = rw e refl in absurd (cc))
      | inr lt ↦ elim (cases_lt agree (start_of entry log)) [
        | inl past ↦ (let q = turn_refused eq cmp total reflexive log logged n entry agree c k here.ready lt past in
            let f = some_inside _ _ (sym q ∙ t) in
            let e : k ≡ k + 1 = ap (λ (h : HonestRun C). h.acks) f in absurd (omega arith))
        | inr past ↦ (let q = turn_acked eq cmp total reflexive log logged n entry agree c k here.ready lt past in
            let f = some_inside _ _ (sym q ∙ t) in
            let e : Acked log n entry ≡ new = ap (λ (h : HonestRun C). h.entry) f in let a : max agree (end_of entry log n) ≡ after =
            ap (λ (h : HonestRun C). h.agree) f in
            rw (← e, ← a) (acknowledge entry agree c k here lt past))
      ]
    ]

    -- an id is left for each turn
    pub id_left : (entry : ProgressEntryOf C) (agree c k : ℕ) → Here entry agree c k → IsBetweenTurns eq cmp log n entry0 agree0
        → entry0.curr_inflight_id + 64 + next_index log.last + 1 < 2 ^ 64
        → (c ≤ 64) × (k ≤ next_index log.last) × (entry.curr_inflight_id + 1 < 2 ^ 64)
    id_left entry agree c k here ready0 left =
        let r3 = ready0.logged in let f = ready0.fits in
        let b = here.near 64 (omega arith) in
        let b1 = b.1 in let ids = here.ids in let many = here.many in
        let r1 = here.ready.matched in let r2 = here.ready.agreed in let r4 = here.ready.logged in
        (omega arith, omega arith, omega arith)

    pub ends_run : (entry : ProgressEntryOf C) (agree c k : ℕ) → Here entry agree c k
        → ((i j : ℕ) → turn cmp log n (record { entry = entry; agree = agree; conflicts = i; acks = j }) ≡ None)
        → HonestRunEnds cmp log n entry0 agree0 entry c k
    ends_run entry agree c k here none = let r =
        here.runs 0 (record { entry = entry; agree = agree; conflicts = c; acks = k }) (none c k, refl) in (r.0, agree, r.1)

-- equal log ids are neither above nor below each other, so a run never lowers the match
module _ {C : Type 0} (eq : C → C → Bool) (cmp : C → C → Ordering) (total : IsTotalOrder cmp) (reflexive : (x : C) → eq x x ≡ true)
    (ties : (x y : C) → eq x y ≡ eq_by_cmp cmp x y) where
  pub tied : (a b : Option (LogIdOf C)) → same_ids eq a b ≡ true → is_eq (option_cmp (log_id_cmp cmp) a b) ≡ true
  tied None None h = refl
  tied None (Some b) h = cc
  tied (Some a) None h = cc
  tied (Some a) (Some b) h =
      let l : eq_by_cmp cmp a.leader_id b.leader_id ≡ true =
      sym (ties a.leader_id b.leader_id) ∙ first_so (eq a.leader_id b.leader_id) (nat_eq a.index b.index) h in
      rw (is_equal (cmp a.leader_id b.leader_id) l)
      (index_tie a.index b.index (second_so (eq a.leader_id b.leader_id) (nat_eq a.index b.index) h))

  le_same : (a l b : Option (LogIdOf C)) → id_le cmp a l ≡ true → same_ids eq b l ≡ true → id_le cmp a b ≡ true
  le_same a l b h k =
      let t = ids_total eq cmp total reflexive in
      let s : option_cmp (log_id_cmp cmp) b a ≡ option_cmp (log_id_cmp cmp) l a =
      t.congr b l a (is_equal (option_cmp (log_id_cmp cmp) b l) (tied b l k)) in
      rw (t.antisymm a b, s, ← t.antisymm a l) h

  pub monotone : (log : LogView C) (n : ℕ) (entry new : ProgressEntryOf C) (agree : ℕ) → Logged cmp log
      → IsBetweenTurns eq cmp log n entry agree → MatchesAll eq log new → id_le cmp entry.matching new.matching ≡ true
  monotone log n entry new agree logged ready caught =
      le_same entry.matching log.last new.matching (elim ready.left [
        | inl same ↦ le_of_eq (option_cmp (log_id_cmp cmp) entry.matching log.last) (tied entry.matching log.last same)
        | inr way ↦ (let from = max (next_index entry.matching) (next_index log.purge_upto) in
            let rises : id_lt cmp (prev_id log.id_at from) (prev_id log.id_at (next_index log.last)) ≡ true =
            prev_rises cmp log logged from (next_index log.last) (omega arith) (omega (arith, way.0, way.1)) (omega arith) in
            let rises2 : id_lt cmp (prev_id log.id_at from) log.last ≡ true = rw (← logged.at_end) rises in
            AtMost-from_lt (option_cmp (log_id_cmp cmp)) entry.matching log.last
            (le_lt (ids_total eq cmp total reflexive) entry.matching (prev_id log.id_at from) log.last way.2 rises2))
      ]) caught.last
