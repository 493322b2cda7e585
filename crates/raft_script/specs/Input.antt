-- What is read of an input, and written.
use Rattle.std.specs.Prelude.{◌==◌, ℕ, Bool, List, Option}
use Rattle.std.specs.List.{list_any}
use Rattle.std.specs.Io.Buffered.{reader_remaining}
use Rattle.std.specs.Io.KnownBytes.{Consumes, append_known}
use Rattle.raft_script.specs.declared.script.dialogue.Dialogue.{Dialogue}

-- what is not read yet, if that is known
abbrev pub unread : {R : Type 0} → (R → Option (List ℕ)) → Dialogue R → Option (List ℕ)
unread remaining dialogue = reader_remaining remaining dialogue.input

-- what is written, and then what is held back to be written, if that is known
abbrev pub contents : {R : Type 0} → Option (List ℕ) → Dialogue R → Option (List ℕ)
contents written dialogue = append_known written dialogue.replies.items

-- whether a line ends in these bytes
abbrev pub has_line_feed : List ℕ → Bool
has_line_feed text = list_any (λ byte. byte == 10) text

-- a text may lose some bytes at its beginning
abbrev pub TakesPart : Option (List ℕ) → Option (List ℕ) → Type 0
TakesPart old new = (part : List ℕ) × Consumes old new part
