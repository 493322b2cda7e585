-- What the events of a search keep of an entry: its match, and that the search ends no later.
use Rattle.std.proofs.Common.{◌≡◌, ◌∙◌, ◌≤◌, ℕ, Bool, true, false, nat_le, nat_lt, ◌&&◌, ◌||◌, ◌==◌, ◌+◌, if◌then◌else◌, Result, Ok, Err, List, [], ◌∷◌, length, drop, refl, sym, subst, arith}
use Rattle.std.proofs.lemmas.Bool.Decides.{nat_tests}
use Rattle.std.proofs.lemmas.List.{at_drop_all}
use Rattle.std.specs.declared.cmp.Ordering.{Ordering}
use Rattle.raft_base.specs.LogId.{next_index}
use Rattle.raft_base.specs.LogView.{LogView, prev_id}
use Rattle.raft_progress.specs.entry.EntryTable.{with_search_end}
use Rattle.raft_progress.specs.entry.Send.{can_send, end_of, send_table, start_of}
use Rattle.raft_progress.specs.inflight.Inflight.{is_idle, logs_from}
use Rattle.raft_progress.specs.inflight.InflightTable.{inflight_after_conflict}
use Rattle.raft_progress.specs.search.Search.{Search, after_event, after_events, after_response, after_send}
use Rattle.raft_progress.specs.declared.entry.ProgressEntryOf.{ProgressEntryOf}
use Rattle.raft_progress.specs.declared.inflight.InflightError.{InflightError}
use Rattle.raft_progress.specs.declared.inflight.InflightError.TheVariants.{ConflictBelowMatching}
use Rattle.raft_progress.specs.declared.inflight.InflightOf.{InflightOf}
use Rattle.raft_progress.specs.declared.inflight.InflightOf.TheVariants.{Snapshot}
use Rattle.raft_progress.specs.declared.search.SearchEvent.{SearchEvent}
use Rattle.raft_progress.specs.declared.search.SearchEvent.TheVariants.{Send, Conflict, Heartbeat}

-- the match stays, the end of the search does not grow, and it does not pass the match
pub record Keeps {C : Type 0} (old new : ProgressEntryOf C) : Type 0 where
  pub matching : new.matching ≡ old.matching
  pub end : new.searching_end ≤ old.searching_end
  pub within : next_index old.matching ≤ old.searching_end → next_index new.matching ≤ new.searching_end

unchanged : {C : Type 0} (old new : ProgressEntryOf C) → new.matching ≡ old.matching → new.searching_end ≡ old.searching_end → Keeps old new
unchanged old new m e = record {
  matching = m;
  end = rw e (omega arith);
  within = λ w. rw (m, e) w;
}

chained : {C : Type 0} (old middle new : ProgressEntryOf C) → Keeps old middle → Keeps middle new → Keeps old new
chained old middle new k l = record {
  matching = l.matching ∙ k.matching;
  end = let a = k.end in let b = l.end in omega arith;
  within = λ w. l.within (k.within w);
}

module _ {C : Type 0} (cmp : C → C → Ordering) where
  sends_keep : (entry : ProgressEntryOf C) (log : LogView C) (n : ℕ) → Keeps entry (after_send (send_table cmp entry log n))
  sends_keep entry log n =
      let start = start_of entry log in
      let until = end_of entry log n in
      let id = entry.curr_inflight_id + 1 in
      by (is_idle entry.inflight) (nat_lt entry.searching_end (next_index log.purge_upto)
      || (start == until && nat_lt (next_index entry.matching) entry.searching_end)) (start == until) id
      (Snapshot id log.snapshot) (logs_from cmp id (prev_id log.id_at start) (prev_id log.id_at until))
    where
      by : (idle probes none : Bool) (id : ℕ) (snapshot logs : InflightOf C)
          → Keeps entry (after_send (if idle then
          (if probes then Ok (record entry { curr_inflight_id = id; inflight = snapshot }) else if none then Err entry else Ok
          (record entry { curr_inflight_id = id; inflight = logs })) else Err entry))
      by true true none id snapshot logs = unchanged entry (record entry { curr_inflight_id = id; inflight = snapshot }) refl refl
      by true false true id snapshot logs = unchanged entry entry refl refl
      by true false false id snapshot logs = unchanged entry (record entry { curr_inflight_id = id; inflight = logs }) refl refl
      by false probes none id snapshot logs = unchanged entry entry refl refl

module _ {C : Type 0} where
  ends_keep : (entry : ProgressEntryOf C) (index : ℕ) (found : Result (InflightOf C) InflightError)
      → Keeps entry (after_response entry (with_search_end entry index found))
  ends_keep entry index (Err e) = unchanged entry entry refl refl
  ends_keep entry index (Ok inflight) = by (nat_lt index entry.searching_end) (nat_lt index (next_index entry.matching))
      (λ h. grind (arith, nat_tests)) (λ h. grind (arith, nat_tests))
    where
      by : (a b : Bool) → (a ≡ true → index ≤ entry.searching_end) → (b ≡ false → next_index entry.matching ≤ index)
          → Keeps entry (after_response entry
          (if a then (if b then Err ConflictBelowMatching else Ok (record entry { inflight = inflight; searching_end = index }))
          else Ok (record entry { inflight = inflight })))
      by true true p q = unchanged entry entry refl refl
      by true false p q = record { matching = refl; end = p refl; within = λ w. q refl }
      by false b p q = unchanged entry (record entry { inflight = inflight }) refl refl

module _ {L C : Type 0} (cmp : C → C → Ordering) (log_view : L → LogView C) where
  event_keeps : (s : Search C) (event : SearchEvent L) → Keeps s.entry (after_event cmp log_view s event).entry
  event_keeps s (Send log n) = by (can_send s.entry (log_view log.now) && nat_le s.purged (next_index (log_view log.now).purge_upto))
    where
      by : (t : Bool) → Keeps s.entry (if t then record {
        entry = after_send (send_table cmp s.entry (log_view log.now) n);
        purged = next_index (log_view log.now).purge_upto;
        accepted = s.accepted;
      } else s).entry
      by true = sends_keep cmp s.entry (log_view log.now) n
      by false = unchanged s.entry s.entry refl refl
  event_keeps s (Conflict id index) = ends_keep s.entry index (inflight_after_conflict s.entry.inflight id index)
  event_keeps s (Heartbeat index) = ends_keep s.entry index (Ok s.entry.inflight)

  pub events_keep : (s : Search C) (events : List (SearchEvent L)) → Keeps s.entry (after_events cmp log_view s events).entry
  events_keep s [] = unchanged s.entry s.entry refl refl
  events_keep s (event ∷ events) =
      let t = after_event cmp log_view s event in
      chained s.entry t.entry (after_events cmp log_view t events).entry (event_keeps s event) (events_keep t events)

  -- after the last event the entry is the one of the whole run
  pub kept_at_end : (s t : Search C) (events : List (SearchEvent L)) (i : ℕ) → length events ≤ i
      → after_events cmp log_view t (drop i events) ≡ after_events cmp log_view s events → Keeps s.entry t.entry
  kept_at_end s t events i le same = subst (λ (x : Search C). Keeps s.entry x.entry)
      (sym same ∙ at_drop_all (after_events cmp log_view t) events i le) (events_keep s events)
