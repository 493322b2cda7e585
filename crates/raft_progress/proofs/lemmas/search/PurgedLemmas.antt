-- Searches over logs that are not purged past an index.
use Rattle.std.specs.List.{AllByRecursion}
use Rattle.std.proofs.Common.{Bool, true, false, ◌&&◌, nat_le, if◌then◌else◌, ℕ, ◌≤◌, List, [], ◌∷◌}
use Rattle.std.specs.declared.cmp.Ordering.{Ordering}
use Rattle.raft_base.specs.LogId.{next_index}
use Rattle.raft_base.specs.LogView.{LogView}
use Rattle.raft_progress.specs.entry.Send.{can_send, send_table}
use Rattle.raft_progress.specs.search.Purged.{IsPurgedWithin}
use Rattle.raft_progress.specs.search.Search.{NonePurgedPast, Search, after_event, after_events, after_send}
use Rattle.raft_progress.specs.declared.search.SearchEvent.{SearchEvent}
use Rattle.raft_progress.specs.declared.search.SearchEvent.TheVariants.{Send, Conflict, Heartbeat}

module _ {L C : Type 0} (cmp : C → C → Ordering) (log_view : L → LogView C) (index : ℕ) where
  either_within : (t : Bool) (s u : Search C) → s.purged ≤ index → u.purged ≤ index → (if t then u else s).purged ≤ index
  either_within true s u l m = m
  either_within false s u l m = l

  -- if no send of a list has its purge point at or past an index, none that was not skipped has
  pub none_purged_past : (search : Search C) (events : List (SearchEvent L)) → search.purged ≤ index
      → AllByRecursion (IsPurgedWithin log_view index) events → NonePurgedPast (after_events cmp log_view search events) index
  none_purged_past search [] l all = l
  none_purged_past search (Send log n ∷ es) l all =
      let view = log_view log.now in
      let next : Search C = record {
        entry = after_send (send_table cmp search.entry view n);
        purged = next_index view.purge_upto;
        accepted = search.accepted;
      } in
      none_purged_past (after_event cmp log_view search (Send log n)) es
      (either_within (can_send search.entry view && nat_le search.purged (next_index view.purge_upto)) search next l all.0) all.1
  none_purged_past search (Conflict id i ∷ es) l all = none_purged_past (after_event cmp log_view search (Conflict id i)) es l all.1
  none_purged_past search (Heartbeat i ∷ es) l all = none_purged_past (after_event cmp log_view search (Heartbeat i)) es l all.1
