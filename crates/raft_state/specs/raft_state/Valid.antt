-- The relations between the log ids of a valid state, in the order in which they are tested.
use Rattle.std.specs.Prelude.{ℕ, Bool, true, List, ◌∷◌, Option, Some, None, ◌==◌, if◌then◌else◌}
use Rattle.std.specs.declared.cmp.Ordering.{Ordering}
use Rattle.raft_base.specs.LogId.{id_le, index_of, next_index, same_ids}
use Rattle.raft_base.specs.LogIndex.{index_le}
use Rattle.raft_base.specs.LogView.{LogView}
use Rattle.raft_base.specs.Validate.{first_false}
use Rattle.raft_base.specs.declared.log_id.LogIdOf.{LogIdOf}
use Rattle.raft_base.specs.declared.log_id.validate.Invalid.{Invalid}
use Rattle.raft_base.specs.declared.log_id.validate.Invalid.TheVariants.{PurgedNext, LastPurgedPastUpto, UptoPastCommitted, UptoPastSnapshot, SnapshotPastCommitted, CommittedPastLast}
use Rattle.raft_state.specs.log_id_list.FullLog.{full_log}
use Rattle.raft_state.specs.log_id_list.LogReads.{first_id}
use Rattle.raft_state.specs.membership_state.MembershipRelations.{membership_relations}
use Rattle.raft_state.specs.raft_state.VoteAndLog.{log_view_of}
use Rattle.raft_state.specs.declared.raft_state.RaftStateIn.{RaftStateIn}

-- nothing was purged, and the log is empty or begins at index 0; or it begins
-- at the index before `purged_next`
abbrev pub fits_purged_next : {C : Type 0} → ℕ → Option (LogIdOf C) → Bool
fits_purged_next next first =
    if next == 0 then index_le (index_of first) (Some 0) else next_index first == next

-- the purge point is not past the snapshot, and without a snapshot not past what is committed
abbrev pub upto_relation : {C : Type 0} → (C → C → Ordering) → Option (LogIdOf C)
    → Option (LogIdOf C) → Option (LogIdOf C) → Bool × Invalid
upto_relation cmp upto committed None = (id_le cmp upto committed, UptoPastCommitted)
upto_relation cmp upto committed (Some snapshot) =
    (id_le cmp upto (Some snapshot), UptoPastSnapshot)

-- each relation, with the case of its breach
abbrev pub state_relations : {K N I L C : Type 0} → (C → C → Ordering) → RaftStateIn K N I L C
    → List (Bool × Invalid)
state_relations cmp s = let log = log_view_of s in
    (fits_purged_next s.purged_next (first_id (full_log s.log_ids)), PurgedNext)
    ∷ (id_le cmp log.last_purged log.purge_upto, LastPurgedPastUpto)
    ∷ upto_relation cmp log.purge_upto log.committed log.snapshot
    ∷ (id_le cmp log.snapshot log.committed, SnapshotPastCommitted)
    ∷ (id_le cmp log.committed log.last, CommittedPastLast)
    ∷ membership_relations cmp s.membership_state

-- the first relation that a state breaks
abbrev pub broken_relation : {K N I L C : Type 0} → (C → C → Ordering) → RaftStateIn K N I L C
    → Option Invalid
broken_relation cmp s = first_false (state_relations cmp s)

-- a log id is absent, or it is the one that the log has at its index
abbrev pub none_or_logged : {C : Type 0} → (C → C → Bool) → LogView C → Option (LogIdOf C) → Bool
none_or_logged eq log None = true
none_or_logged eq log (Some id) = same_ids eq (log.id_at id.index) (Some id)
