-- Ranges of a log with one leader.
use Rattle.std.specs.Prelude.{◌≡◌, ℕ, ◌≤◌, List, Some}
use Rattle.raft_base.specs.declared.log_id.LogIdOf.{LogIdOf}
use Rattle.raft_state.specs.log_id_list.LogReads.{id_at}

-- at each index from i up to j a log has the log id of leader c
abbrev pub HasOneLeader : {C : Type 0} → List (LogIdOf C) → C → ℕ → ℕ → Type 0
HasOneLeader log c i j = (n : ℕ) → i ≤ n → n ≤ j
    → id_at log n ≡ Some (record { leader_id = c; index = n })
