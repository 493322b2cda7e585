-- What a script does, line by line, and its exit status.
use Rattle.std.specs.Prelude.{◌≡◌, ◌+◌, ◌^◌, ℕ, Bool, true, false, List, [], ◌∷◌, ◌++◌, Option, Some, None, IfSome, ◌⊎◌}
use Rattle.std.specs.Io.KnownBytes.{Appends}
use Rattle.raft_script.specs.Engine.{EngineState}
use Rattle.trace_lines.specs.Lines.{TakesLine, lines}
use Rattle.raft_script.specs.Input.{TakesPart}
use Rattle.raft_script.specs.LineRun.{AnswersLine}

-- lines are run in order, each with the number after the one of the line before: up to the last
-- one, with status 0, or up to the first that cannot be run, with status 2; a line whose number
-- would be 2 ^ 64 is not run, with status 1
abbrev pub RunsLines : ℕ → Option EngineState → List (List ℕ) → ℕ → List ℕ → Type 0
RunsLines number old [] status replies = (status ≡ 0) × (replies ≡ [])
RunsLines number old (line ∷ others) status replies =
    ((status ≡ 2) × AnswersLine number old line false old replies)
    ⊎ (((status ≡ 1) × (number ≡ 2 ^ 64) × (replies ≡ []))
    ⊎ ((new : Option EngineState) × (reply : List ℕ) × (more : List ℕ) × (replies ≡ reply ++ more)
    × AnswersLine number old line true new reply
    × RunsLines (number + 1) new others status more))

-- the lines of a script are run from number 1 on, before any init; if its bytes are not known, some
-- lines are
abbrev pub RunsScript : Option (List ℕ) → ℕ → List ℕ → Type 0
RunsScript script status replies =
    (said : List (List ℕ)) × IfSome script (λ text. said ≡ lines text)
    × RunsLines 1 None said status replies

-- a run of the script has this status
abbrev pub HasStatus : Option (List ℕ) → ℕ → Type 0
HasStatus script status = (replies : List ℕ) × RunsScript script status replies

-- the first lines are run, and the others remain
abbrev pub RunsFirst : ℕ → Option EngineState → List (List ℕ) → List ℕ → List (List ℕ) → Type 0
RunsFirst number old [] replies left = (replies ≡ []) × (left ≡ [])
RunsFirst number old (line ∷ others) replies left =
    ((replies ≡ []) × (left ≡ line ∷ others))
    ⊎ ((new : Option EngineState) × (reply : List ℕ) × (more : List ℕ) × (replies ≡ reply ++ more)
    × AnswersLine number old line true new reply
    × RunsFirst (number + 1) new others more left)

-- the first lines of a script are run, and then an error comes: while a line is read, and only the
-- replies to those before it are printed; or while it is run, and it is read whole
abbrev pub BreaksOff : Option (List ℕ) → Option (List ℕ) → Option (List ℕ) → Option (List ℕ) → Type 0
BreaksOff script unread before now = IfSome script (λ text.
    (rest : List ℕ) × (replies : List ℕ) × RunsFirst 1 None (lines text) replies (lines rest)
    × ((TakesPart (Some rest) unread × Appends before now replies)
    ⊎ ((line : List ℕ) × (is_last : Bool) × TakesLine (Some rest) line is_last unread)))
