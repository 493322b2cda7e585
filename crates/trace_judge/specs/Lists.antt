-- Lists of lines without an order between them.
use Rattle.std.specs.Prelude.{◌≡◌, ℕ, List, [], ◌∷◌, ◌++◌, Option, Some, slice_get, slice_set}
use Rattle.safety_laws.specs.Trace.{Tests}
use Rattle.safety_laws.specs.declared.counting.ConfigsCount.{ConfigsCount}
use Rattle.trace_checker.specs.declared.memberships.Memberships.{Memberships}
use Rattle.trace_judge.specs.Run.{SafeRun}

-- these lines, in this order, are those by which lists have grown: each was added to the end of one list. So
-- this is an order of the new lines of all lists, and it keeps the order of each list
abbrev pub IsMerge : List (List (List ℕ)) → List (List ℕ) → List (List (List ℕ)) → Type 0
IsMerge lists [] grown = grown ≡ lists
IsMerge lists (line ∷ later) grown =
    (i : ℕ) × (list : List (List ℕ)) × (slice_get lists i ≡ Some list)
    × IsMerge (slice_set lists i (list ++ line ∷ [])) later grown

module _ (tests : ConfigsCount → Memberships ℕ ℕ → Tests ℕ ℕ ℕ (Option ℕ)) where
  -- the lines by which lists have grown have an order in which they are a safe run, before the lines that
  -- wait, and which keeps the order of each list
  pub record HaveSafeMerge (waiting : List (List ℕ)) (lists grown : List (List (List ℕ))) : Type 0 where
    pub merged : List (List ℕ)
    pub is_merge : IsMerge lists merged grown
    pub is_safe : SafeRun tests waiting merged
