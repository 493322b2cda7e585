-- The greatest part that a quorum of a list of voters has reached.
use Rattle.std.specs.Prelude.{◌≡◌, Bool, true, ◌⊎◌, List, filter, All, Contains, take, ℕ}
use Rattle.std.specs.Ordering.{is_le, is_lt}
use Rattle.std.specs.declared.cmp.Ordering.{Ordering}
use Rattle.std.specs.Set.{is_member}
use Rattle.std.specs.Map.{keys_of}
use Rattle.raft_progress.specs.progress.CountedValue.{AtMost}

module _ {ID V P : Type 0} where
  -- whether the voter's part is at least p
  abbrev pub at_least : (P → P → Ordering) → (V → P) → P → ID × V → Bool
  at_least cmp part p e = is_le (cmp p (part e.1))

  -- whether the voter's part exceeds g
  abbrev pub exceeds : (P → P → Ordering) → (V → P) → P → ID × V → Bool
  exceeds cmp part g e = is_lt (cmp g (part e.1))

  -- whether the voters with a part of at least p are a quorum
  abbrev pub reaches : (ID → ID → Bool) → (P → P → Ordering) → (V → P) → ((ID → Bool) → Bool)
      → List (ID × V) → P → Bool
  reaches eq cmp part is_quorum voters p =
      is_quorum (is_member eq (keys_of (filter (at_least cmp part p) voters)))

module _ {ID V P : Type 0} (eq : ID → ID → Bool) (cmp : P → P → Ordering) (part : V → P)
    (is_quorum : (ID → Bool) → Bool) where
  -- g is the greatest of the default and of those parts of the seen voters that a quorum of all
  -- voters has reached
  pub record IsGreatest (voters seen : List (ID × V)) (default g : P) : Type 0 where
    pub is_one : (g ≡ default) ⊎ ((e : ID × V) × Contains voters e × (part e.1 ≡ g)
        × (reaches eq cmp part is_quorum voters (part e.1) ≡ true))
    pub default_at_most : AtMost cmp default g
    pub others_at_most : All (λ e. reaches eq cmp part is_quorum voters (part e.1) ≡ true
        → AtMost cmp (part e.1) g) seen

-- whether the first voters are a quorum
abbrev pub prefix_test : {ID V : Type 0} → (ID → ID → Bool) → ((ID → Bool) → Bool) → List (ID × V)
    → ℕ → Bool
prefix_test eq is_quorum voters prefix = is_quorum (is_member eq (keys_of (take prefix voters)))
