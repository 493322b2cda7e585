-- When a leader's request to append entries is honest towards a server.
use Rattle.std.specs.Prelude.{◌≡◌, ℕ, ◌<◌, ◌≤◌, Bool, max, List, Option, Some, IsTrue}
use Rattle.std.specs.declared.cmp.Ordering.{Ordering}
use Rattle.raft_base.specs.LogId.{next_index, same_ids}
use Rattle.raft_base.specs.declared.log_id.LogIdOf.{LogIdOf}
use Rattle.steps_handlers.specs.Entries.{entry_ids, has_id}
use Rattle.raft_members.specs.membership.Stored.{log_id_of}
use Rattle.raft_state.specs.log_id_list.FullLog.{full_log}
use Rattle.raft_state.specs.log_id_list.Keys.{may_be_keys}
use Rattle.raft_state.specs.log_id_list.LogKept.{HasIds}
use Rattle.raft_state.specs.log_id_list.LogReads.{id_at}
use Rattle.raft_state.specs.raft_state.Appended.{are_consecutive}
use Rattle.raft_state.specs.declared.entry.EntryOf.{EntryOf}
use Rattle.raft_state.specs.declared.raft_state.RaftStateIn.{RaftStateIn}

-- below an index, a log has what the log of a server has
abbrev pub HasBelow : {K N I L C : Type 0} → (C → C → Bool) → ℕ → RaftStateIn K N I L C
    → List (LogIdOf C) → Type 0
HasBelow {K} {N} {I} {L} {C} eq end s log = (i : ℕ) (id : LogIdOf C) → i < end
    → id_at (full_log s.log_ids) i ≡ Some id → IsTrue (same_ids eq (id_at log i) (Some id))

-- the index after the last one that a server knows to be committed, by its committed log id or by its
-- committed membership
abbrev pub known_end : {K N I L C : Type 0} → RaftStateIn K N I L C → ℕ
known_end s = max (next_index s.committed) (next_index (log_id_of s.membership_state.committed))

-- these are the keys of an elected leader's log, from its very first entry on, when a server has this
-- state:
-- - its indexes are consecutive, and its leaders never fall;
-- - leader completeness: it has all that the server knows to be committed;
-- - log matching: if both logs have a log id, they have the same log ids up to there;
-- - it has the server's memberships that are purged from the server's log.
pub record IsLeadersLog {K N I L C : Type 0} (eq : C → C → Bool) (cmp : C → C → Ordering)
    (s : RaftStateIn K N I L C) (keys : List (LogIdOf C)) : Type 0 where
  pub in_order : IsTrue (may_be_keys cmp keys)
  pub complete : HasBelow eq (known_end s) s (full_log keys)
  pub matching : (i : ℕ) (id : LogIdOf C) → id_at (full_log s.log_ids) i ≡ Some id
      → IsTrue (same_ids eq (id_at (full_log keys) i) (Some id)) → HasBelow eq i s (full_log keys)
  pub committed_membership : next_index (log_id_of s.membership_state.committed) ≤ s.purged_next
      → IsTrue (has_id eq (full_log keys) (log_id_of s.membership_state.committed))
  pub effective_membership : next_index (log_id_of s.membership_state.effective) ≤ s.purged_next
      → IsTrue (has_id eq (full_log keys) (log_id_of s.membership_state.effective))

-- a request is a piece of a log: `prev` and the entries after it are in the log, with consecutive
-- indexes, and the log has what the leader has committed
pub record IsPieceOf {K N C D : Type 0} (eq : C → C → Bool) (log : List (LogIdOf C))
    (prev : Option (LogIdOf C)) (es : List (EntryOf C K N D)) (committed : Option (LogIdOf C))
    : Type 0 where
  pub has_prev : IsTrue (has_id eq log prev)
  pub has_entries : HasIds eq (entry_ids es) log
  pub consecutive : IsTrue (are_consecutive prev (entry_ids es))
  pub has_committed : IsTrue (has_id eq log committed)

-- a request to append entries is honest: it is a piece of the log of an elected leader
pub record IsHonest {K N I L C D : Type 0} (eq : C → C → Bool) (cmp : C → C → Ordering)
    (prev : Option (LogIdOf C)) (es : List (EntryOf C K N D)) (committed : Option (LogIdOf C))
    (s : RaftStateIn K N I L C) : Type 0 where
  pub keys : List (LogIdOf C)
  pub leader : IsLeadersLog eq cmp s keys
  pub piece : IsPieceOf eq (full_log keys) prev es committed
