-- What a line does to an engine, and what is written for it.
use Rattle.std.specs.Prelude.{◌≡◌, ℕ, Bool, true, false, List, [], Option, Some, None, IsSomeAnd, ◌⊎◌, map}
use Rattle.std.specs.BTreeSet.{keys}
use Rattle.std.specs.Io.KnownBytes.{Appends}
use Rattle.raft_progress.specs.declared.progress.steps.Reply.{Reply}
use Rattle.raft_progress.specs.declared.progress.steps.Reply.TheVariants.{OutOfMemory}
use Rattle.raft_script.specs.Engine.{AnswersStep, IsStart, EngineState}
use Rattle.raft_script.specs.Line.{IsBadLine, SaysCommand, SaysNothing}
use Rattle.raft_script.specs.ReplyText.{bad_line_text, reply_text}
use Rattle.raft_script.specs.declared.script.command.Command.{Command}
use Rattle.raft_script.specs.declared.script.command.Command.TheVariants.{Init}
use Rattle.raft_script.specs.declared.script.command.Command.TheVariants as command

-- an init begins anew and prints nothing, or its allocation fails, and it changes nothing and says
-- so; a step has a reply, which is printed
abbrev pub RunsCommand : Option EngineState → Command → Option EngineState → List ℕ → Type 0
RunsCommand old (Init default configs learners) new text =
    (IsSomeAnd new (IsStart (map keys configs.items) learners.keys default) × (text ≡ []))
    ⊎ ((new ≡ old) × (text ≡ reply_text OutOfMemory))
RunsCommand old (command.Step step) new text =
    (reply : Reply ℕ ℕ) × AnswersStep old step (Some reply) new × (text ≡ reply_text reply)

-- a line that says nothing changes nothing and prints nothing, and a command is run
abbrev pub RunsLine : Option EngineState → List ℕ → Option EngineState → List ℕ → Type 0
RunsLine old line new text =
    (SaysNothing line × (new ≡ old) × (text ≡ []))
    ⊎ ((said : Command) × SaysCommand line said × RunsCommand old said new text)

-- a step before any init
abbrev pub IsStepTooEarly : Option EngineState → Command → Type 0
IsStepTooEarly held (Init default configs learners) = ⊥
IsStepTooEarly held (command.Step step) = held ≡ None

-- a line cannot be run if it is a bad line, or a step before any init
abbrev pub CannotRun : Option EngineState → List ℕ → Type 0
CannotRun held line =
    IsBadLine line ⊎ ((said : Command) × SaysCommand line said × IsStepTooEarly held said)

-- a line is run, or it cannot be run, changes nothing and has its number printed
abbrev pub AnswersLine : ℕ → Option EngineState → List ℕ → Bool → Option EngineState → List ℕ
    → Type 0
AnswersLine number old line true new text = RunsLine old line new text
AnswersLine number old line false new text =
    CannotRun old line × (new ≡ old) × (text ≡ bad_line_text number)

-- what an error leaves: all as it was, or what the run made; its text may not be written whole
abbrev pub IsLeftByFault : (Option EngineState → List ℕ → Type 0)
    → Option EngineState → Option EngineState → Type 0
IsLeftByFault Runs old new = (new ≡ old) ⊎ ((text : List ℕ) × Runs new text)

-- a text that fits is written
abbrev pub Prints : Option (List ℕ) → Option (List ℕ) → (List ℕ → Type 0) → Type 0
Prints old new Fits = (text : List ℕ) × Appends old new text × Fits text
