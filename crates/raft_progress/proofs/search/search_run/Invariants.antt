use Rattle.std.proofs.Common.{◌≡◌, ◌≤◌, drop}
use Rattle.raft_base.specs.LogIndex.{next_index_of}
use Rattle.raft_progress.specs.search.Search.{after_events, new_search}
use Rattle.raft_progress.proofs.search.search_run.Given as goal

-- the remaining events lead from here to where all of them lead from the start
abbrev pub invariant-loop-event : goal.invariant-loop-event
invariant-loop-event g l = record {
  small : l.accepted ≤ l.event-index;
  same_end : after_events g.C.Ord.cmp g.L.LogStateReader.log_view
      (record { entry = l.entry; purged = next_index_of l.purged; accepted = l.accepted }) (drop l.event-index l.events)
      ≡ after_events g.C.Ord.cmp g.L.LogStateReader.log_view (new_search l.fn.entry) l.events;
}
