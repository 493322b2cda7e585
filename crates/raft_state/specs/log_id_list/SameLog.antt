-- What is said of logs with equal leaders composes.
use Rattle.std.specs.Prelude.{Bool, List, Option, IsTrue}
use Rattle.raft_base.specs.LogId.{same_ids}
use Rattle.raft_base.specs.declared.log_id.LogIdOf.{LogIdOf}
use Rattle.raft_state.specs.log_id_list.FullLog.{same_log}

-- an edit of equal logs leaves equal logs
abbrev pub KeepsSame : {C : Type 0} → (C → C → Bool)
    → (List (LogIdOf C) → List (LogIdOf C)) → Type 0
KeepsSame {C} eq edit = (a b : List (LogIdOf C)) →
    IsTrue (same_log eq a b) → IsTrue (same_log eq (edit a) (edit b))

-- a look-up in equal logs finds equal log ids, or none in both
abbrev pub FindsSame : {C : Type 0} → (C → C → Bool)
    → (List (LogIdOf C) → Option (LogIdOf C)) → Type 0
FindsSame {C} eq look = (a b : List (LogIdOf C)) →
    IsTrue (same_log eq a b) → IsTrue (same_ids eq (look a) (look b))
