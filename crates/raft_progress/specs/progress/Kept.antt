-- What stays when values are written in place, and when a progress is cloned.
use Rattle.std.specs.Prelude.{◌≡◌, Bool, true, Some, map, take}
use Rattle.std.specs.declared.cmp.Ordering.{Ordering}
use Rattle.std.specs.Map.{keys_of, set_value}
use Rattle.raft_progress.specs.progress.Equal.{IsCloned}
use Rattle.raft_progress.specs.progress.InOrder.{IsInOrder}
use Rattle.raft_progress.specs.progress.ProgressView.{ProgressView, state}

-- the progress with another value at an id, at the same position, and nothing else changed
abbrev pub with_value : {ID V P QS : Type 0} → (ID → ID → Bool) → ProgressView ID V P QS → ID → V
    → ProgressView ID V P QS
with_value eq p id w = record p { entries = set_value (eq id) p.entries w }

-- the ids and the voters' parts are as they were; learners' values, and what a value contains
-- beside its part, may differ
pub record KeepsParts {ID V P QS : Type 0} (part : V → P) (old new : ProgressView ID V P QS) : Type 0 where
  pub quorum_set : new.quorum_set ≡ old.quorum_set
  pub voter_count : new.voter_count ≡ old.voter_count
  pub default_part : new.default_part ≡ old.default_part
  pub granted : new.granted ≡ old.granted
  pub ids : keys_of new.entries ≡ keys_of old.entries
  pub parts : map (λ e. part e.1) (take old.voter_count new.entries)
      ≡ map (λ e. part e.1) (take old.voter_count old.entries)

module _ (ID V P QS : Type 0) (eq : ID → ID → Bool) (part : V → P) where
  -- a value in place of another keeps ids and voters' parts, if it has the same part or the id is
  -- not a voter
  abbrev pub SamePartKeepsParts : Type 0
  SamePartKeepsParts =
      (p : ProgressView ID V P QS) (id : ID) (v w : V) → (state eq p).value id ≡ Some v
      → ((state eq p).is_voter id ≡ true → part w ≡ part v)
      → KeepsParts part p (with_value eq p id w)

  -- if ids and voters' parts are as they were, a progress that was in order is in order
  abbrev pub KeptPartsKeepOrder : (P → P → Ordering) → (QS → (ID → Bool) → Bool) → Type 0
  KeptPartsKeepOrder cmp has_quorum =
      (old new : ProgressView ID V P QS) → KeepsParts part old new
      → IsInOrder eq cmp part has_quorum old → IsInOrder eq cmp part has_quorum new

  -- a clone of a progress in order is in order, if clones of values have the same part, and clones
  -- of quorum sets the same quorums
  abbrev pub ClonesKeepOrder : (P → P → Ordering) → (QS → (ID → Bool) → Bool) → (V → V → Type 0)
      → (QS → QS → Type 0) → Type 0
  ClonesKeepOrder cmp has_quorum IsClone IsSetClone =
      ((v w : V) → IsClone v w → part w ≡ part v)
      → ((c d : QS) → IsSetClone c d → (set : ID → Bool) → has_quorum d set ≡ has_quorum c set)
      → (old new : ProgressView ID V P QS) → IsCloned IsClone IsSetClone old new
      → IsInOrder eq cmp part has_quorum old → IsInOrder eq cmp part has_quorum new
