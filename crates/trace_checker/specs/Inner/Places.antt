-- Where the leaders of a rank are in the list of all leaders.
use Rattle.std.specs.Prelude.{◌≡◌, ◌+◌, ◌<◌, ◌≤◌, ℕ, min, Option, Some, None, List, length, get_or}
use Rattle.std.specs.BTreeMap.{is_at}
use Rattle.std.specs.Map.{lookup}
use Rattle.std.specs.Ordering.{nat_cmp}
use Rattle.trace_checker.specs.declared.checker.leader.Leader.{Leader}

-- the numbers between which the leaders of a rank are, the oldest leader of all being number 0
abbrev pub place_of : List (ℕ × (ℕ × ℕ)) → ℕ → Option (ℕ × ℕ)
place_of places r = lookup (is_at (nat_cmp r)) places

-- the first number of a rank, after this number
abbrev pub first_of : Option (ℕ × ℕ) → ℕ → ℕ
first_of None n = n
first_of (Some w) n = min w.0 n

-- of so many leaders, of which the newest is first, the one at place i has a number between these
pub record IsWithin (place : Option (ℕ × ℕ)) (i count : ℕ) : Type 0 where
  pub first : ℕ
  pub last : ℕ
  pub is : place ≡ Some (first, last)
  pub not_before : first + i < count
  pub not_after : count ≤ last + i + 1

-- each leader is between the numbers of its rank
abbrev pub ArePlaced : {T N : Type 0} → (T → ℕ) → List (ℕ × (ℕ × ℕ)) → List (Leader T N) → Type 0
ArePlaced {T} {N} rank places leaders =
    (i : ℕ) (l : Leader T N) → i < length leaders → l ≡ get_or leaders i l
    → IsWithin (place_of places (rank l.term)) i (length leaders)
