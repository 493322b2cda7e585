-- What contracts see of a `VecProgress`.
use Rattle.std.specs.Prelude.{ℕ, Bool, List, drop}
use Rattle.std.specs.Map.{keys_of}
use Rattle.raft_progress.specs.progress.ProgressState.{ProgressState}
use Rattle.raft_progress.specs.progress.Entries.{state_of}
use Rattle.raft_progress.specs.declared.progress.stat.Stat.{Stat}

-- a quorum set, the entries (the ids with their values, the voters first), the number of voters, the
-- part of the default, the granted value, and the counts
pub record ProgressView (ID V P QS : Type 0) : Type 0 where
  pub quorum_set : QS
  pub entries : List (ID × V)
  pub voter_count : ℕ
  pub default_part : P
  pub granted : P
  pub stat : Stat

-- voters, learners and values, apart from the entries
abbrev pub state : {ID V P QS : Type 0} → (ID → ID → Bool) → ProgressView ID V P QS
    → ProgressState ID V P QS
state eq p = state_of eq p.quorum_set p.entries p.voter_count p.default_part

-- the ids of the learners, which come after the voters
abbrev pub learner_ids : {ID V P QS : Type 0} → ProgressView ID V P QS → List ID
learner_ids p = drop p.voter_count (keys_of p.entries)
