-- The search for the last log that a leader and a follower share: what events make of it.
use Rattle.std.specs.Prelude.{ℕ, ◌+◌, ◌-◌, ◌≤◌, ◌≡◌, true, ◌&&◌, nat_le, Result, Ok, Err, if◌then◌else◌, List, [], ◌∷◌, Some, None}
use Rattle.std.specs.declared.cmp.Ordering.{Ordering}
use Rattle.raft_base.specs.LogId.{next_index}
use Rattle.raft_base.specs.LogView.{LogView}
use Rattle.raft_progress.specs.entry.EntryTable.{entry_after_conflict}
use Rattle.raft_progress.specs.entry.Send.{can_send, send_table}
use Rattle.raft_progress.specs.inflight.Inflight.{is_idle}
use Rattle.raft_progress.specs.declared.entry.ProgressEntryOf.{ProgressEntryOf}
use Rattle.raft_progress.specs.declared.search.SearchEvent.{SearchEvent}
use Rattle.raft_progress.specs.declared.search.SearchEvent.TheVariants.{Send, Conflict, Heartbeat}

-- an entry in a search, the index after the purge point of the last send, and the number of
-- accepted conflicts
pub record Search (C : Type 0) : Type 0 where
  pub entry : ProgressEntryOf C
  pub purged : ℕ
  pub accepted : ℕ

-- a search that begins with an entry
abbrev pub new_search : {C : Type 0} → ProgressEntryOf C → Search C
new_search entry = record { entry = entry; purged = 0; accepted = 0 }

-- the entry after a send, whether something was sent or not
abbrev pub after_send : {S : Type 0} → Result S S → S
after_send (Ok entry) = entry
after_send (Err entry) = entry

-- the entry after a response, which is unchanged if the response is refused
abbrev pub after_response : {S E : Type 0} → S → Result S E → S
after_response entry (Ok new) = new
after_response entry (Err e) = entry

-- 1 if a response is accepted, and 0 if it is refused
abbrev pub one_if_accepted : {S E : Type 0} → Result S E → ℕ
one_if_accepted (Ok new) = 1
one_if_accepted (Err e) = 0

module _ {L C : Type 0} (cmp : C → C → Ordering) (log_view : L → LogView C) where
  -- a send, unless it may not be made, or the purge point has moved back since an earlier send
  abbrev pub after_sending : Search C → LogView C → ℕ → Search C
  after_sending search log max_entries =
      if can_send search.entry log && nat_le search.purged (next_index log.purge_upto)
      then record {
        entry = after_send (send_table cmp search.entry log max_entries);
        purged = next_index log.purge_upto;
        accepted = search.accepted;
      }
      else search

  -- the search after an event; an event that is refused changes nothing
  abbrev pub after_event : Search C → SearchEvent L → Search C
  after_event search (Send log max_entries) = after_sending search (log_view log.now) max_entries
  after_event search (Conflict request_id index) =
      let answer = entry_after_conflict search.entry (Some request_id) index in
      record {
        entry = after_response search.entry answer;
        purged = search.purged;
        accepted = search.accepted + one_if_accepted answer;
      }
  after_event search (Heartbeat index) =
      record search
      { entry = after_response search.entry (entry_after_conflict search.entry None index) }

  -- the search after events, one after another
  abbrev pub after_events : Search C → List (SearchEvent L) → Search C
  after_events search [] = search
  after_events search (event ∷ events) = after_events (after_event search event) events

-- no send that was not skipped had a purge point at or past an index; the last of them had the
-- furthest one, because a send whose purge point moves back is skipped
abbrev pub NonePurgedPast : {C : Type 0} → Search C → ℕ → Type 0
NonePurgedPast search index = search.purged ≤ index

-- a search can begin: nothing is in flight, and matching is below the searching end
abbrev pub CanSearch : {C : Type 0} → ProgressEntryOf C → Type 0
CanSearch entry =
    (is_idle entry.inflight ≡ true) × (next_index entry.matching ≤ entry.searching_end)

-- the number of indexes after matching and below the searching end
abbrev pub stretch : {C : Type 0} → ProgressEntryOf C → ℕ
stretch entry = entry.searching_end - next_index entry.matching
