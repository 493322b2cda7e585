-- The order of the full log of every list.
use Rattle.std.specs.Prelude.{◌≡◌, ℕ, ◌+◌, ◌<◌, List, Some, slice_get, IsTrue}
use Rattle.std.specs.Ordering.{is_le}
use Rattle.std.specs.declared.cmp.Ordering.{Ordering}
use Rattle.raft_base.specs.LogId.{id_le}
use Rattle.raft_base.specs.declared.log_id.LogIdOf.{LogIdOf}
use Rattle.raft_state.specs.log_id_list.FullLog.{first_index}
use Rattle.raft_state.specs.log_id_list.LogReads.{id_at, last_id}

-- indexes are consecutive: the log id at position n has the first index plus n
abbrev pub AreConsecutive : {C : Type 0} → List (LogIdOf C) → Type 0
AreConsecutive {C} log = (n : ℕ) (id : LogIdOf C) →
    slice_get log n ≡ Some id → id.index ≡ first_index log + n

-- leaders never fall: the leader of a log id is at most the leader of each later one
abbrev pub LeadersNeverFall : {C : Type 0} → (C → C → Ordering) → List (LogIdOf C) → Type 0
LeadersNeverFall {C} cmp log = (m n : ℕ) (a b : LogIdOf C) → m < n →
    slice_get log m ≡ Some a → slice_get log n ≡ Some b →
    IsTrue (is_le (cmp a.leader_id b.leader_id))

-- leaders never fall along indexes
abbrev pub LeadersNeverFallByIndex : {C : Type 0} → (C → C → Ordering) → List (LogIdOf C) → Type 0
LeadersNeverFallByIndex {C} cmp log = (i j : ℕ) (a b : LogIdOf C) → i < j →
    id_at log i ≡ Some a → id_at log j ≡ Some b → IsTrue (is_le (cmp a.leader_id b.leader_id))

-- no log id is above the last one
abbrev pub NoneAboveLast : {C : Type 0} → (C → C → Ordering) → List (LogIdOf C) → Type 0
NoneAboveLast cmp log = (i : ℕ) → IsTrue (id_le cmp (id_at log i) (last_id log))

-- the log id at each position is the one at its index
abbrev pub AreFound : {C : Type 0} → List (LogIdOf C) → Type 0
AreFound {C} log = (n : ℕ) (id : LogIdOf C) →
    slice_get log n ≡ Some id → id_at log id.index ≡ Some id
