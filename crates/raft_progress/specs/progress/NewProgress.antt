-- What a new progress is made of.
use Rattle.std.specs.Prelude.{◌≡◌, Bool, true, false, ◌||◌, List, ◌++◌, length, Option, Some, None}
use Rattle.std.specs.List.{IsDistinct}
use Rattle.std.specs.List.Sorted.{IsStrictlySortedBy}
use Rattle.std.specs.Map.{keys_of}
use Rattle.std.specs.Set.{is_member}
use Rattle.std.specs.declared.cmp.Ordering.{Ordering}
use Rattle.raft_progress.specs.progress.ProgressState.{ProgressState}
use Rattle.raft_progress.specs.progress.ProgressView.{ProgressView}

-- no learner is repeated, and none is a voter
pub record LearnersFit {ID : Type 0} (eq : ID → ID → Bool) (is_voter : ID → Bool)
    (learners : List ID) : Type 0 where
  pub distinct : IsDistinct eq learners
  pub no_voters : (x : ID) → is_member eq learners x ≡ true → is_voter x ≡ false

-- a value is there, and is a clone of v
abbrev pub HasClone : {V : Type 0} → (V → V → Type 0) → V → Option V → Type 0
HasClone {V} IsClone v value = (w : V) × (value ≡ Some w) × IsClone v w

module _ {ID V P QS : Type 0} (eq : ID → ID → Bool) (IsClone : V → V → Type 0) (part : V → P)
    (is_voter : ID → Bool) where
  -- each voter and each learner has a clone of the default, and no other id has a value
  pub record IsNew (quorum_set : QS) (learners : List ID) (default : V)
      (new : ProgressState ID V P QS) : Type 0 where
    pub same_quorum_set : new.quorum_set ≡ quorum_set
    pub voters : (x : ID) → new.is_voter x ≡ is_voter x
    pub value : (x : ID) → (is_voter x || is_member eq learners x) ≡ true
        → HasClone IsClone default (new.value x)
    pub others : (x : ID) → (is_voter x || is_member eq learners x) ≡ false → new.value x ≡ None
    pub default_part : new.default_part ≡ part default

-- the entries of a new progress: the voters, each once, ascending, and then the learners in the
-- given order
pub record AreFirstEntries {ID V P QS : Type 0} (id_cmp : ID → ID → Ordering) (learners : List ID)
    (made : ProgressView ID V P QS) : Type 0 where
  pub voters : List ID
  pub ascending : IsStrictlySortedBy id_cmp voters
  pub ids : keys_of made.entries ≡ voters ++ learners
  pub first : made.voter_count ≡ length voters
