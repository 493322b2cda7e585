-- What a progress is: voters, learners and their values, apart from how they are stored.
use Rattle.std.specs.Prelude.{◌≡◌, Bool, Option, Some, option_map}
use Rattle.std.specs.Map.{update}

-- voters, learners and their values, apart from how they are stored: an id without a value is
-- neither
pub record ProgressState (ID V P QS : Type 0) : Type 0 where
  pub quorum_set : QS
  pub is_voter : ID → Bool
  pub value : ID → Option V
  pub default_part : P

-- the same progress
pub record IsSame {ID V P QS : Type 0} (old new : ProgressState ID V P QS) : Type 0 where
  pub quorum_set : new.quorum_set ≡ old.quorum_set
  pub is_voter : (x : ID) → new.is_voter x ≡ old.is_voter x
  pub value : (x : ID) → new.value x ≡ old.value x
  pub default_part : new.default_part ≡ old.default_part

-- the value of one id is now v, and nothing else has changed
pub record Writes {ID V P QS : Type 0} (eq : ID → ID → Bool) (old : ProgressState ID V P QS)
    (id : ID) (v : V) (new : ProgressState ID V P QS) : Type 0 where
  pub quorum_set : new.quorum_set ≡ old.quorum_set
  pub is_voter : (x : ID) → new.is_voter x ≡ old.is_voter x
  pub value : (x : ID) → new.value x ≡ update eq old.value id (Some v) x
  pub default_part : new.default_part ≡ old.default_part

-- whether an id is a voter, for an id that has a value
abbrev pub voter_of : {ID V P QS : Type 0} → ProgressState ID V P QS → ID → Option Bool
voter_of s id = option_map (λ v. s.is_voter id) (s.value id)
