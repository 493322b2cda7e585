-- The places of memberships, by which they are found without a search.
use Rattle.std.specs.Prelude.{◌≡◌, ◌&&◌, ℕ, Bool, false, Option, Some, None, List, cond, nat_eq}
use Rattle.std.specs.BTreeMap.{is_at}
use Rattle.std.specs.List.{position_from}
use Rattle.std.specs.Map.{lookup}
use Rattle.std.specs.Option.{option_or}
use Rattle.std.specs.declared.cmp.Ordering.{Ordering}

module _ {D : Type 0} (cmp : D → D → Ordering) where
  -- the place of a content in an index
  abbrev pub place_of : List (D × ℕ) → D → Option ℕ
  place_of places d = lookup (is_at (cmp d)) places

-- the place of the first item of a content, after an item of this content or of another is added at
-- a place
abbrev pub place_after : Option ℕ → Bool → ℕ → Option ℕ
place_after before same place = option_or before (cond same (Some place) None)

-- the place is this one
abbrev pub is_place : Option ℕ → ℕ → Bool
is_place None place = false
is_place (Some n) place = nat_eq n place

-- the place of the first item of a content, before an item of this content or of another was added
-- at a place
abbrev pub place_before : Option ℕ → Bool → ℕ → Option ℕ
place_before after same place = cond (same && is_place after place) None after

module _ {D : Type 0} (same : D → D → Bool) (cmp : D → D → Ordering) where
  -- an index has the place of the first item of each content
  abbrev pub AreIndexed : {V : Type 0} → List (D × ℕ) → List (D × V) → Type 0
  AreIndexed places items =
      (d : D) → place_of cmp places d ≡ position_from (λ m. same m.0 d) 0 items
