-- The comparisons of a progress, taken from the traits of its types.
use Rattle.std.specs.Prelude.{Bool, Option}
use Rattle.std.specs.declared.clone.Clone as clone_ghosts
use Rattle.std.specs.declared.cmp.Ordering.{Ordering}
use Rattle.raft_progress.specs.declared.progress.part.ProgressPart as part_ghosts

-- the type of `K.Ord` in a clause
abbrev pub OrdMembers : Type 0 → Type 0
OrdMembers K =
    record { partial_cmp : K → K → Option Ordering; eq : K → K → Bool; cmp : K → K → Ordering }

-- the type of `V.PartialOrd` in a clause
abbrev pub PartialOrdMembers : Type 0 → Type 0
PartialOrdMembers V = record { eq : V → V → Bool; partial_cmp : V → V → Option Ordering }

-- when two ids are equal, how ids, parts and values are ordered, which part of a value is compared,
-- and what a clone of a value is
pub record Comparisons (ID V P : Type 0) : Type 1 where
  pub eq : ID → ID → Bool
  pub id_cmp : ID → ID → Ordering
  pub cmp : P → P → Ordering
  pub partial_cmp : V → V → Option Ordering
  pub part : V → P
  pub IsClone : V → V → Type 0

-- the comparisons of the traits of ids and parts, with values ordered by `order`
abbrev pub comparisons_ordered : {ID V P : Type 0} → OrdMembers ID → OrdMembers P
    → (V → V → Option Ordering) → part_ghosts.Ghosts V P → clone_ghosts.Ghosts V → Comparisons ID V P
comparisons_ordered ids parts order value clones =
    record {
      eq = ids.eq;
      id_cmp = ids.cmp;
      cmp = parts.cmp;
      partial_cmp = order;
      part = value.part_of;
      IsClone = clones.is_clone;
    }

-- the comparisons of the traits of ids, parts and values
abbrev pub comparisons : {ID V P : Type 0} → OrdMembers ID → OrdMembers P → PartialOrdMembers V
    → part_ghosts.Ghosts V P → clone_ghosts.Ghosts V → Comparisons ID V P
comparisons ids parts values value clones =
    record {
      eq = ids.eq;
      id_cmp = ids.cmp;
      cmp = parts.cmp;
      partial_cmp = values.partial_cmp;
      part = value.part_of;
      IsClone = clones.is_clone;
    }
