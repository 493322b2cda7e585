-- Runs of steps, each with its reply.
use Rattle.std.specs.Prelude.{List, [], ◌∷◌}

module _ {S A R : Type 0} (Step : S → A → R → S → Type 0) (Same : S → S → Type 0) where
  -- the steps may have these replies, one after another; no steps and no replies change nothing
  abbrev pub Runs : S → List A → List R → S → Type 0
  Runs old [] [] new = Same old new
  Runs old (step ∷ steps) (reply ∷ replies) new =
      (middle : S) × Step old step reply middle × Runs middle steps replies new
  Runs old [] (reply ∷ replies) new = ⊥
  Runs old (step ∷ steps) [] new = ⊥
