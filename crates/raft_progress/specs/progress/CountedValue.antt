-- What a quorum of the voters has reached, and the greatest such part: the counted value.
use Rattle.std.specs.Prelude.{◌≡◌, Bool, true, false, ◌&&◌, Option, Some, None, ◌⊎◌}
use Rattle.std.specs.Ordering.{is_le}
use Rattle.std.specs.declared.cmp.Ordering.{Ordering}
use Rattle.std.specs.declared.cmp.Ordering.TheVariants.{Equal}
use Rattle.raft_progress.specs.progress.ProgressState.{ProgressState}

-- a is not above b
abbrev pub AtMost : {P : Type 0} → (P → P → Ordering) → P → P → Type 0
AtMost cmp a b = is_le (cmp a b) ≡ true

module _ {V P : Type 0} (cmp : P → P → Ordering) (part : V → P) where
  -- whether a value is there and its part is at least p
  abbrev pub has_part : P → Option V → Bool
  has_part p None = false
  has_part p (Some v) = is_le (cmp p (part v))

module _ {ID V P QS : Type 0} (cmp : P → P → Ordering) (part : V → P) where
  -- the voters whose part is at least p
  abbrev pub reached : ProgressState ID V P QS → P → ID → Bool
  reached s p x = s.is_voter x && has_part cmp part p (s.value x)

  -- a voter whose part a quorum has reached
  pub record IsReached (has_quorum : QS → (ID → Bool) → Bool) (s : ProgressState ID V P QS) (x : ID)
      (v : V) : Type 0 where
    pub voter : s.is_voter x ≡ true
    pub value : s.value x ≡ Some v
    pub quorum : has_quorum s.quorum_set (reached s (part v)) ≡ true

  -- g is the greatest of the default's part and of the voters' parts that a quorum has reached
  pub record IsCounted (has_quorum : QS → (ID → Bool) → Bool) (s : ProgressState ID V P QS) (g : P)
      : Type 0 where
    pub is_one : (cmp s.default_part g ≡ Equal)
        ⊎ ((x : ID) × (v : V) × IsReached has_quorum s x v × (cmp (part v) g ≡ Equal))
    pub default_at_most : AtMost cmp s.default_part g
    pub others_at_most : (x : ID) (v : V) → IsReached has_quorum s x v → AtMost cmp (part v) g
