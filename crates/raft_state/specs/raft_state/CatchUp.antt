-- When a follower can be caught up with a state.
use Rattle.std.specs.Prelude.{ℕ, Bool, ◌&&◌}
use Rattle.std.specs.Option.{is_none}
use Rattle.std.specs.declared.cmp.Ordering.{Ordering}
use Rattle.raft_progress.specs.catch_up.CatchUp.{can_catch_up}
use Rattle.raft_progress.specs.declared.entry.ProgressEntryOf.{ProgressEntryOf}
use Rattle.raft_state.specs.raft_state.VoteAndLog.{log_view_of}
use Rattle.raft_state.specs.raft_state.Valid.{broken_relation, none_or_logged}
use Rattle.raft_state.specs.declared.raft_state.RaftStateIn.{RaftStateIn}

-- the state is valid, its purge point is in its log, and the follower can be caught up with that
-- log
abbrev pub state_can_catch_up : {K N I L C : Type 0} → (C → C → Bool) → (C → C → Ordering)
    → RaftStateIn K N I L C → ProgressEntryOf C → ℕ → ℕ → Bool
state_can_catch_up eq cmp s entry agree max_entries =
    is_none (broken_relation cmp s) && none_or_logged eq (log_view_of s) s.purge_upto
    && can_catch_up eq cmp (log_view_of s) entry agree max_entries
