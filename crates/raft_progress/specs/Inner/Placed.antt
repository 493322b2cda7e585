-- Entries to which ids with the default are appended, and a value that is written at a position.
use Rattle.std.specs.Prelude.{◌≡◌, ℕ, List, ◌++◌, Some, slice_get, slice_set}
use Rattle.std.specs.List.{AllByRecursion}
use Rattle.std.specs.Map.{keys_of}

-- the new entries are the old ones and then the ids, each with a clone of the default
pub record IsPlaced {ID V : Type 0} (IsClone : V → V → Type 0) (default : V) (ids : List ID)
    (old new : List (ID × V)) : Type 0 where
  pub added : List (ID × V)
  pub is : new ≡ old ++ added
  pub keys : keys_of added ≡ ids
  pub clones : AllByRecursion (λ e. IsClone default e.1) added

module _ {ID V P : Type 0} (part : V → P) (Left : V → V → Type 0) where
  -- the value at a position became one that Left allows, and nothing else has changed; its part
  -- went from `before` to `after`
  abbrev pub IsWrittenAt : ℕ → List (ID × V) → List (ID × V) → P → P → Type 0
  IsWrittenAt position old new before after =
      (e : ID × V) × (w : V) × (slice_get old position ≡ Some e) × Left e.1 w
      × (new ≡ slice_set old position (e.0, w)) × (before ≡ part e.1) × (after ≡ part w)
