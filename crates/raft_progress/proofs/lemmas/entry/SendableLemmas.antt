-- What keeps a progress entry one that may be sent to.
use Rattle.std.specs.Prelude.{◌≡◌, ℕ, zero, suc, ◌+◌, ◌^◌, ◌<◌, ◌≤◌, ◌&&◌, ◌||◌, ◌==◌, nat_lt, nat_le, max, Bool, true, false, Option, Some, None, Result, Ok, Err, IfSome, refl, if◌then◌else◌}
use Rattle.std.specs.Ordering.{is_le, nat_cmp}
use Rattle.std.specs.declared.cmp.Ordering.{Ordering}
use Rattle.std.proofs.Common.{arith, ltb-true, subst, sym}
use Rattle.std.proofs.lemmas.Bool.{leb-true}
use Rattle.std.proofs.lemmas.Bool.Decides.{nat_tests}
use Rattle.raft_base.specs.LogId.{id_le, id_lt, index_of, next_index}
use Rattle.raft_base.specs.LogIndex.{index_le}
use Rattle.raft_base.specs.LogView.{LogView, prev_id}
use Rattle.raft_base.specs.declared.log_id.LogIdOf.{LogIdOf}
use Rattle.raft_base.specs.declared.log_id.log_id_range.LogIdRangeOf.{LogIdRangeOf}
use Rattle.raft_progress.specs.entry.EntryTable.{entry_after_ack, entry_after_conflict, with_matching, with_search_end}
use Rattle.raft_progress.specs.entry.Send.{can_send, end_of, send_table, start_of}
use Rattle.raft_progress.specs.entry.Sendable.{IsSendable, end_in_flight}
use Rattle.raft_progress.specs.inflight.Inflight.{is_idle, is_sending_snapshot, logs_from}
use Rattle.raft_progress.specs.inflight.InflightTable.{inflight_after_ack, inflight_after_conflict, is_within}
use Rattle.raft_progress.specs.declared.entry.ProgressEntryOf.{ProgressEntryOf}
use Rattle.raft_progress.specs.declared.inflight.InflightError.{InflightError}
use Rattle.raft_progress.specs.declared.inflight.InflightError.TheVariants.{AckOutOfRange, ConflictBelowMatching, ConflictNotAtPrev, IndexTooLarge, InvalidRequestId, MatchingRegress, SnapshotAckRegress}
use Rattle.raft_progress.specs.declared.inflight.InflightOf.{InflightOf}
use Rattle.raft_progress.specs.declared.inflight.InflightOf.TheVariants.{None as Idle, Logs, Snapshot}
use Rattle.raft_progress.proofs.lemmas.ListLemmas.{of_both}

ok_inside : {S E : Type 0} (x y : S) → (let r : Result S E = Ok x in r) ≡ Ok y → x ≡ y
ok_inside x y h = cc

not_ok : {S E R : Type 0} (e : E) (y : S) → (let r : Result S E = Err e in r) ≡ Ok y → R
not_ok e y h = cc

five : (a b c d e : Bool) → (a && b && c && d && e) ≡ true → (a ≡ true) × (b ≡ true) × (c ≡ true) × (d ≡ true) × (e ≡ true)
five a b c d e h =
    let p = of_both (a && b && c && d) e h in
    let q = of_both (a && b && c) d p.0 in
    let r = of_both (a && b) c q.0 in
    let s = of_both a b r.0 in
    (s.0, s.1, r.1, q.1, p.1)

number_le : (i j : ℕ) → is_le (nat_cmp i j) ≡ true → i ≤ j
number_le i j h = grind (arith, nat_tests)

-- indexes in order come before indexes in order
next_from_index_le : {C : Type 0} (a b : Option (LogIdOf C)) → index_le (index_of a) (index_of b) ≡ true → next_index a ≤ next_index b
next_from_index_le None None h = omega arith
next_from_index_le None (Some b) h = omega arith
next_from_index_le (Some a) None h = cc
next_from_index_le (Some a) (Some b) h = omega (arith, number_le a.index b.index h)

module _ {C : Type 0} where
  -- the log id before an index is none, or its index is the one before
  prev_within : (log : LogView C) → ((i : ℕ) → IfSome (log.id_at i) (λ id. id.index ≡ i)) → (i : ℕ) → next_index (prev_id log.id_at i) ≤ i
  prev_within log indexed zero = omega arith
  prev_within log indexed (suc i) = by (log.id_at i) (indexed i)
    where
      by : (id : Option (LogIdOf C)) → IfSome id (λ k. k.index ≡ i) → next_index id ≤ suc i
      by None h = omega arith
      by (Some k) h = omega (arith, h)

  logs_end : (sent : Bool) (id l : ℕ) (range : LogIdRangeOf C) → next_index range.last ≤ l
      → end_in_flight (if sent then Logs id range else Idle) ≤ l
  logs_end true id l range h = h
  logs_end false id l range h = omega arith

  pub sendable_can_send : (entry : ProgressEntryOf C) (log : LogView C) → IsSendable entry log → can_send entry log ≡ true
  sendable_can_send entry log fits =
      let a : nat_le (next_index entry.matching) entry.searching_end ≡ true = let h = fits.matched in grind (arith, nat_tests) in
      let b : nat_lt (next_index log.last) (2 ^ 64) ≡ true = let h = fits.last in grind (arith, nat_tests) in
      let c : nat_le entry.searching_end (next_index log.last) ≡ true = let h = fits.searched in grind (arith, nat_tests) in
      let d : nat_lt (next_index log.purge_upto) (2 ^ 64) ≡ true = let h = fits.purged in grind (arith, nat_tests) in
      let e : nat_lt (entry.curr_inflight_id + 1) (2 ^ 64) ≡ true = let h = fits.request in grind (arith, nat_tests) in
      by (is_idle entry.inflight) _ _ _ _ _ a b c d e
    where
      by : (idle a b c d e : Bool) → a ≡ true → b ≡ true → c ≡ true → d ≡ true → e ≡ true
          → (if idle then (a && b && c && d && e) else true) ≡ true
      by true a b c d e ha hb hc hd he = rw (ha, hb, hc, hd, he) refl
      by false a b c d e ha hb hc hd he = refl

  idle_ends : (f : InflightOf C) (l : ℕ) → is_idle f ≡ true → end_in_flight f ≤ l
  idle_ends Idle l h = omega arith
  idle_ends (Logs id range) l h = cc
  idle_ends (Snapshot id last) l h = cc

  pub begins_sendable : (entry : ProgressEntryOf C) (log : LogView C) → is_idle entry.inflight ≡ true → can_send entry log ≡ true
      → IsSendable entry log
  begins_sendable entry log idle can =
      let s = five (nat_le (next_index entry.matching) entry.searching_end) (nat_lt (next_index log.last) (2 ^ 64))
      (nat_le entry.searching_end (next_index log.last)) (nat_lt (next_index log.purge_upto) (2 ^ 64))
      (nat_lt (entry.curr_inflight_id + 1) (2 ^ 64)) (rw idle at can) in
      record {
        matched = leb-true _ _ s.0;
        searched = leb-true _ _ s.2;
        in_flight = idle_ends entry.inflight (next_index log.last) idle;
        last = ltb-true _ _ s.1;
        purged = ltb-true _ _ s.3;
        request = ltb-true _ _ s.4;
      }

  pub give_up_keeps : (entry : ProgressEntryOf C) (log : LogView C) → IsSendable entry log
      → IsSendable (record entry { inflight = Idle }) log
  give_up_keeps entry log is = record {
    matched = is.matched;
    searched = is.searched;
    in_flight = omega arith;
    last = is.last;
    purged = is.purged;
    request = is.request;
  }

  pub growth_keeps : (entry : ProgressEntryOf C) (log later : LogView C) → next_index log.last ≤ next_index later.last
      → next_index later.last < 2 ^ 64 → next_index later.purge_upto < 2 ^ 64 → IsSendable entry log → IsSendable entry later
  growth_keeps entry log later more last purged is = record {
    matched = is.matched;
    searched = omega (arith, more, is.searched);
    in_flight = omega (arith, more, is.in_flight);
    last = last;
    purged = purged;
    request = is.request;
  }

module _ {C : Type 0} (cmp : C → C → Ordering) where
  pub send_keeps : (entry sent : ProgressEntryOf C) (log : LogView C) (max_entries : ℕ)
      → ((i : ℕ) → IfSome (log.id_at i) (λ id. id.index ≡ i))
      → next_index log.snapshot ≤ next_index log.last → entry.curr_inflight_id + 2 < 2 ^ 64 → IsSendable entry log
      → send_table cmp entry log max_entries ≡ Ok sent
      → IsSendable sent log
  send_keeps entry sent log max_entries indexed snapshot more fits is =
      let start = start_of entry log in
      let until = end_of entry log max_entries in
      let id = entry.curr_inflight_id + 1 in
      let within : until ≤ next_index log.last = omega arith in
      by (is_idle entry.inflight) (nat_lt entry.searching_end (next_index log.purge_upto)
      || (start == until && nat_lt (next_index entry.matching) entry.searching_end)) (start == until)
      id (omega (arith, more)) (Snapshot id log.snapshot) (logs_from cmp id (prev_id log.id_at start) (prev_id log.id_at until)) snapshot
      (logs_end (id_lt cmp (prev_id log.id_at start) (prev_id log.id_at until)) id (next_index log.last)
      (record { prev = prev_id log.id_at start; last = prev_id log.id_at until })
      (omega (arith, prev_within log indexed until, within))) is
    where
      sending : (id : ℕ) (f : InflightOf C) → id + 1 < 2 ^ 64 → end_in_flight f ≤ next_index log.last
          → IsSendable (record entry { curr_inflight_id = id; inflight = f }) log
      sending id f left h = record {
        matched = fits.matched;
        searched = fits.searched;
        in_flight = h;
        last = fits.last;
        purged = fits.purged;
        request = left;
      }

      by : (idle probes none : Bool) (id : ℕ) → id + 1 < 2 ^ 64 → (snapshot logs : InflightOf C)
          → end_in_flight snapshot ≤ next_index log.last
          → end_in_flight logs ≤ next_index log.last
          → (if idle then
          (if probes then Ok (record entry { curr_inflight_id = id; inflight = snapshot }) else if none then Err entry else Ok
          (record entry { curr_inflight_id = id; inflight = logs })) else Err entry)
          ≡ Ok sent
          → IsSendable sent log
      by true true none id left s l hs hl e =
          subst (λ (x : ProgressEntryOf C). IsSendable x log) (ok_inside _ sent e) (sending id s left hs)
      by true false true id left s l hs hl e = not_ok entry sent e
      by true false false id left s l hs hl e =
          subst (λ (x : ProgressEntryOf C). IsSendable x log) (ok_inside _ sent e) (sending id l left hl)
      by false probes none id left s l hs hl e = not_ok entry sent e

  within_next : (range : LogIdRangeOf C) (m : Option (LogIdOf C)) → is_within cmp range m ≡ true → next_index m ≤ next_index range.last
  within_next range m h =
      next_from_index_le m range.last (of_both (id_le cmp range.prev m && id_le cmp m range.last
      && index_le (index_of range.prev) (index_of m)) (index_le (index_of m) (index_of range.last)) h).1

  -- an ack that is taken, and what it leaves in flight, are within what was in flight
  taken_within : (f after : InflightOf C) (id l : ℕ) (m : Option (LogIdOf C)) → (is_sending_snapshot f ≡ true → next_index m ≤ l)
      → end_in_flight f ≤ l → inflight_after_ack cmp f id m ≡ Ok after → (next_index m ≤ l) × (end_in_flight after ≤ l)
  taken_within Idle after id l m snapshot fits is = not_ok _ after is
  taken_within (Logs mine range) after id l m snapshot fits is = by (mine == id) (is_within cmp range m) (within_next range m) is
    where
      by : (t u : Bool) → (u ≡ true → next_index m ≤ next_index range.last)
          → (if t then (if u then Ok (logs_from cmp mine m range.last) else Err AckOutOfRange) else Err
          (InvalidRequestId (Some mine) id))
          ≡ Ok after
          → (next_index m ≤ l) × (end_in_flight after ≤ l)
      by true true h e = (
        omega (arith, h refl, fits),
        subst (λ (g : InflightOf C). end_in_flight g ≤ l) (ok_inside _ after e)
            (logs_end (id_lt cmp m range.last) mine l (record { prev = m; last = range.last }) fits),
      )
      by true false h e = not_ok _ after e
      by false u h e = not_ok _ after e
  taken_within (Snapshot mine last) after id l m snapshot fits is = by (mine == id) (id_lt cmp m last) is
    where
      by : (t u : Bool) → (if t then (if u then Err SnapshotAckRegress else Ok Idle) else Err (InvalidRequestId (Some mine) id)) ≡ Ok after
          → (next_index m ≤ l) × (end_in_flight after ≤ l)
      by true true e = not_ok _ after e
      by true false e = (snapshot refl, subst (λ (g : InflightOf C). end_in_flight g ≤ l) (ok_inside _ after e) (omega arith))
      by false u e = not_ok _ after e

  pub ack_keeps : (entry new : ProgressEntryOf C) (log : LogView C) (id : ℕ) (matching : Option (LogIdOf C))
      → (is_sending_snapshot entry.inflight ≡ true → next_index matching ≤ next_index log.last) → IsSendable entry log
      → entry_after_ack cmp entry id matching ≡ Ok new → IsSendable new log
  ack_keeps entry new log id m snapshot fits is =
      by (inflight_after_ack cmp entry.inflight id m)
      (λ after taken. taken_within entry.inflight after id (next_index log.last) m snapshot fits.in_flight taken) is
    where
      taken : (after : InflightOf C) → (next_index m ≤ next_index log.last) × (end_in_flight after ≤ next_index log.last) → (t u : Bool)
          → (if t then Err MatchingRegress
          else (if u then Ok (record entry {
            matching = m;
            inflight = after;
            searching_end = max entry.searching_end (next_index m);
          })
          else Err IndexTooLarge))
          ≡ Ok new
          → IsSendable new log
      taken after h true u e = not_ok _ new e
      taken after h false true e = subst (λ (x : ProgressEntryOf C). IsSendable x log) (ok_inside _ new e) (record {
        matched = omega arith;
        searched = omega (arith, fits.searched, h.0);
        in_flight = h.1;
        last = fits.last;
        purged = fits.purged;
        request = fits.request;
      })
      taken after h false false e = not_ok _ new e

      by : (found : Result (InflightOf C) InflightError)
          → ((after : InflightOf C) → found ≡ Ok after → (next_index m ≤ next_index log.last) × (end_in_flight after ≤ next_index log.last))
          → with_matching cmp entry m found ≡ Ok new → IsSendable new log
      by (Ok after) h e = taken after (h after refl) (id_lt cmp m entry.matching) (nat_lt (next_index m) (2 ^ 64)) e
      by (Err why) h e = not_ok why new e

module _ {C : Type 0} where
  conflict_ends : (f after : InflightOf C) (id index l : ℕ) → inflight_after_conflict f id index ≡ Ok after → end_in_flight after ≤ l
  conflict_ends f after id index l is = subst (λ (g : InflightOf C). end_in_flight g ≤ l) (sym (leaves f is)) (omega arith)
    where
      leaves : (f : InflightOf C) → inflight_after_conflict f id index ≡ Ok after → after ≡ Idle
      leaves Idle h = not_ok _ after h
      leaves (Logs mine range) h = by (mine == id) _ h
        where
          by : (t u : Bool) → (if t then (if u then Ok Idle else Err ConflictNotAtPrev) else Err (InvalidRequestId (Some mine) id))
              ≡ Ok after
              → after ≡ Idle
          by true true e = sym (ok_inside Idle after e)
          by true false e = not_ok _ after e
          by false u e = not_ok _ after e
      leaves (Snapshot mine last) h = by (mine == id) _ h
        where
          by : (t : Bool) (why : InflightError) → (if t then Err why else Err (InvalidRequestId (Some mine) id)) ≡ Ok after → after ≡ Idle
          by true why e = not_ok _ after e
          by false why e = not_ok _ after e

  ends_keep : (entry new : ProgressEntryOf C) (log : LogView C) (index : ℕ) (found : Result (InflightOf C) InflightError)
      → IsSendable entry log
      → ((after : InflightOf C) → found ≡ Ok after → end_in_flight after ≤ next_index log.last) → with_search_end entry index found ≡ Ok new
      → IsSendable new log
  ends_keep entry new log index (Err why) fits h e = not_ok why new e
  ends_keep entry new log index (Ok after) fits h e = by (nat_lt index entry.searching_end) (nat_lt index (next_index entry.matching))
      (λ t. grind (arith, nat_tests)) (λ t. grind (arith, nat_tests)) e
    where
      by : (a b : Bool) → (a ≡ true → index ≤ entry.searching_end) → (b ≡ false → next_index entry.matching ≤ index)
          → (if a then (if b then Err ConflictBelowMatching else Ok (record entry { inflight = after; searching_end = index }))
          else Ok (record entry { inflight = after }))
          ≡ Ok new
          → IsSendable new log
      by true true p q e = not_ok _ new e
      by true false p q e = subst (λ (x : ProgressEntryOf C). IsSendable x log) (ok_inside _ new e) (record {
        matched = q refl;
        searched = omega (arith, p refl, fits.searched);
        in_flight = h after refl;
        last = fits.last;
        purged = fits.purged;
        request = fits.request;
      })
      by false b p q e = subst (λ (x : ProgressEntryOf C). IsSendable x log) (ok_inside _ new e) (record {
        matched = fits.matched;
        searched = fits.searched;
        in_flight = h after refl;
        last = fits.last;
        purged = fits.purged;
        request = fits.request;
      })

  pub conflict_keeps : (entry new : ProgressEntryOf C) (log : LogView C) (id : Option ℕ) (index : ℕ) → IsSendable entry log
      → entry_after_conflict entry id index ≡ Ok new → IsSendable new log
  conflict_keeps entry new log None index fits e =
      ends_keep entry new log index (Ok entry.inflight) fits
      (λ after is. subst (λ (g : InflightOf C). end_in_flight g ≤ next_index log.last) (ok_inside entry.inflight after is) fits.in_flight) e
  conflict_keeps entry new log (Some id) index fits e =
      ends_keep entry new log index (inflight_after_conflict entry.inflight id index) fits
      (λ after is. conflict_ends entry.inflight after id index (next_index log.last) is) e
