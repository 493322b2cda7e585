-- The position of each id in a list of ids, as a sorted list.
use Rattle.std.specs.Prelude.{◌≡◌, ℕ, ◌+◌, ◌<◌, ◌≤◌, Bool, true, false, cond, ◌&&◌, ◌==◌, nat_le, nat_lt, List, length, Option, Some, None}
use Rattle.std.specs.List.{range_with_len}
use Rattle.std.specs.List.Sorted.{IsPermutation}
use Rattle.std.specs.Map.{lookup}
use Rattle.std.specs.Set.{is_member}
use Rattle.std.proofs.Common.{get_or}

-- the position of an id according to the entries
abbrev pub position_in : {ID : Type 0} → (ID → ID → Bool) → List (ID × ℕ) → ID → Option ℕ
position_in eq entries x = lookup (eq x) entries

-- the positions from 0 on, each once, in any order
abbrev pub AreAllPositions : List ℕ → Type 0
AreAllPositions positions = IsPermutation (range_with_len 0 (length positions)) positions

-- each list contains the positions of its numbers in the other one
pub record AreInverse (positions ranks : List ℕ) : Type 0 where
  pub one_length : length ranks ≡ length positions
  pub back : (r : ℕ) → r < length positions → (get_or positions r 0 < length ranks)
      × (get_or ranks (get_or positions r 0) 0 ≡ r)
  pub forth : (p : ℕ) → p < length ranks → (get_or ranks p 0 < length positions)
      × (get_or positions (get_or ranks p 0) 0 ≡ p)

-- each id of the list is at the position that a look-up returns, which returns none for any other id
pub record AreAtPositions {ID : Type 0} (eq : ID → ID → Bool) (ids : List ID)
    (found : ID → Option ℕ) : Type 0 where
  pub here : (x : ID) (k : ℕ) → k < length ids → eq x (get_or ids k x) ≡ true → found x ≡ Some k
  pub unknown : (x : ID) → is_member eq ids x ≡ false → found x ≡ None

-- each id was at the position that a look-up returns, before the entry at `last` was moved up to
-- `first`
pub record WereAtPositions {ID : Type 0} (eq : ID → ID → Bool) (ids : List ID) (first last : ℕ)
    (found : ID → Option ℕ) : Type 0 where
  pub before : (x : ID) (k : ℕ) → k < length ids → eq x (get_or ids k x) ≡ true → k < first
      → found x ≡ Some k
  pub moved : (x : ID) → first < length ids → eq x (get_or ids first x) ≡ true → found x ≡ Some last
  pub passed : (x : ID) (k : ℕ) → k + 1 < length ids → eq x (get_or ids (k + 1) x) ≡ true
      → first ≤ k → k < last → found x ≡ Some k
  pub behind : (x : ID) (k : ℕ) → k < length ids → eq x (get_or ids k x) ≡ true → last < k
      → found x ≡ Some k
  pub unknown : (x : ID) → is_member eq ids x ≡ false → found x ≡ None

-- the position after that move
abbrev pub position_after : ℕ → ℕ → ℕ → ℕ
position_after first last position =
    cond (position == last) first (cond (nat_le first position && nat_lt position last) (position + 1) position)
