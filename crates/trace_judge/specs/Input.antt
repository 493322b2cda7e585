-- Lists of lines, each of one input.
use Rattle.std.specs.Prelude.{◌≡◌, ℕ, List, Option, Some, map, true}
use Rattle.safety_laws.specs.Ranks.{IsAmong}
use Rattle.trace_lines.specs.Reader.{IsAtEnd, lines_of, lines_read}
use Rattle.trace_judge.specs.declared.input.Lines.{Lines}

-- the lines that were read of a list, and are not pending
abbrev pub read_of : {B : Type 0} → Lines B → List (List ℕ)
read_of list = lines_read list.reader

-- a list was read to its end
abbrev pub IsReadToEnd : {B : Type 0} → Lines B → Type 0
IsReadToEnd list = IsAtEnd list.reader

-- if a list waits with a line, the line is one of these
abbrev pub WaitsWith : {B : Type 0} → List (List ℕ) → Lines B → Type 0
WaitsWith waiting list = list.reader.is_pending ≡ true → IsAmong list.reader.line.items waiting

-- all lines of a list, if the bytes of its input are known
abbrev pub known_of : {B : Type 0} → (B → Option (List ℕ)) → Lines B → Option (List (List ℕ))
known_of remaining list = lines_of remaining list.reader

-- lists still have the lines that they had, if these are known
abbrev pub KeepKnown : {B : Type 0} → (B → Option (List ℕ)) → List (Lines B) → List (Lines B) → Type 0
KeepKnown remaining old new =
    (all : List (List (List ℕ))) → map (known_of remaining) old ≡ map Some all → map (known_of remaining) new ≡ map Some all
