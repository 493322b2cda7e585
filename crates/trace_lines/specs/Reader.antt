-- Inputs that are read line by line.
use Rattle.std.specs.Prelude.{◌≡◌, ℕ, true, false, if◌then◌else◌, List, [], ◌∷◌, ◌++◌, Option, Some, option_map}
use Rattle.trace_lines.specs.Lines.{lines}
use Rattle.trace_lines.specs.declared.reader.LineReader.{LineReader}

-- the lines that were read and passed, in their order
abbrev pub lines_read : {B : Type 0} → LineReader B → List (List ℕ)
lines_read reader = reader.passed.lines

-- the last line of the input was passed
abbrev pub IsAtEnd : {B : Type 0} → LineReader B → Type 0
IsAtEnd reader = (reader.is_pending ≡ false) × (reader.is_last ≡ true)

-- all lines of an input whose bytes are known: those that were passed, the pending one, and those after it
abbrev pub lines_of : {B : Type 0} → (B → Option (List ℕ)) → LineReader B → Option (List (List ℕ))
lines_of remaining reader =
    let later = if reader.is_last then Some [] else option_map lines (remaining reader.input) in
    option_map (λ ls. lines_read reader ++ (if reader.is_pending then reader.line.items ∷ ls else ls)) later

-- an input still has the lines that it had, if they are known
abbrev pub KeepsLines : {B : Type 0} → (B → Option (List ℕ)) → LineReader B → LineReader B → Type 0
KeepsLines remaining old new = (ls : List (List ℕ)) → lines_of remaining old ≡ Some ls → lines_of remaining new ≡ Some ls
