-- The lines of an input.
use Rattle.std.specs.Prelude.{◌≡◌, ◌==◌, ℕ, Bool, true, false, List, [], ◌∷◌, Option, Some, None, ⊤}
use Rattle.std.specs.List.{slice_split}

-- the lines of a text: the parts between its line feeds
abbrev pub lines : List ℕ → List (List ℕ)
lines text = slice_split (λ byte. byte == 10) text

-- a text loses its first line, with its line feed; the last line has none
abbrev pub TakesLine : Option (List ℕ) → List ℕ → Bool → Option (List ℕ) → Type 0
TakesLine None line is_last rest = ⊤
TakesLine (Some text) line is_last None = ⊥
TakesLine (Some text) line true (Some rest) = (lines text ≡ line ∷ []) × (rest ≡ [])
TakesLine (Some text) line false (Some rest) = lines text ≡ line ∷ lines rest
