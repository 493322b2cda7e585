-- Searches over logs that are not purged past an index.
use Rattle.std.specs.Prelude.{◌≤◌, List, ⊤}
use Rattle.std.specs.List.{AllByRecursion}
use Rattle.std.specs.declared.cmp.Ordering.{Ordering}
use Rattle.raft_base.specs.LogId.{next_index}
use Rattle.raft_base.specs.LogView.{LogView}
use Rattle.raft_progress.specs.search.Search.{NonePurgedPast, Search, after_events}
use Rattle.raft_progress.specs.declared.search.SearchEvent.{SearchEvent}
use Rattle.raft_progress.specs.declared.search.SearchEvent.TheVariants.{Send}
use Rattle.std.specs.Prelude.{ℕ}

module _ {L C : Type 0} (log_view : L → LogView C) (index : ℕ) where
  -- the purge point of a send is before an index
  abbrev pub IsPurgedWithin : SearchEvent L → Type 0
  IsPurgedWithin (Send log n) = next_index (log_view log.now).purge_upto ≤ index
  IsPurgedWithin event = ⊤

module _ (L C : Type 0) (cmp : C → C → Ordering) (log_view : L → LogView C) where
  -- if the purge point of each send of a list is before an index, so is the purge point of each
  -- send that was not skipped
  abbrev pub PurgedWithinStays : Type 0
  PurgedWithinStays =
      (search : Search C) (events : List (SearchEvent L)) (index : ℕ) → NonePurgedPast search index
      → AllByRecursion (IsPurgedWithin log_view index) events
      → NonePurgedPast (after_events cmp log_view search events) index
