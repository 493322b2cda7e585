-- What is in a log after an edit, if leaders are compared by their `==`.
use Rattle.std.specs.Prelude.{◌≡◌, ℕ, ◌<◌, Bool, List, Some, slice_get, IsTrue}
use Rattle.raft_base.specs.LogId.{same_ids}
use Rattle.raft_base.specs.declared.log_id.LogIdOf.{LogIdOf}
use Rattle.raft_state.specs.log_id_list.FullLog.{end_index}
use Rattle.raft_state.specs.log_id_list.LogReads.{id_at}

-- up to its end a log has equal log ids as before
abbrev pub KeepsIds : {C : Type 0} → (C → C → Bool) → List (LogIdOf C) → List (LogIdOf C) → Type 0
KeepsIds eq old new =
    (i : ℕ) → i < end_index old → IsTrue (same_ids eq (id_at new i) (id_at old i))

-- each of these log ids is in a log, at its index
abbrev pub HasIds : {C : Type 0} → (C → C → Bool) → List (LogIdOf C) → List (LogIdOf C) → Type 0
HasIds {C} eq ids log = (n : ℕ) (id : LogIdOf C) →
    slice_get ids n ≡ Some id → IsTrue (same_ids eq (id_at log id.index) (Some id))
