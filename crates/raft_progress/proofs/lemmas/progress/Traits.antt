-- What a progress compares by, in a proof's words.
use Rattle.std.specs.Prelude.{Bool, Option}
use Rattle.std.specs.declared.cmp.Ordering.{Ordering}
use Rattle.raft_progress.specs.progress.Comparisons.{Comparisons}

abbrev pub compared : {ID V P : Type 0} → (ID → ID → Bool) → (ID → ID → Ordering) → (P → P → Ordering) → (V → V → Option Ordering) → (V → P)
    → (V → V → Type 0) → Comparisons ID V P
compared eq id_cmp cmp partial_cmp part IsClone =
    record { eq = eq; id_cmp = id_cmp; cmp = cmp; partial_cmp = partial_cmp; part = part; IsClone = IsClone }
