-- What is filled in for the lines of a run, though no line says it.
use Rattle.std.specs.Prelude.{◌≡◌, ◌⊎◌, ◌+◌, ℕ, List, [], ◌∷◌, ◌++◌, Some, length, max}
use Rattle.serde_json.specs.Data.{Data}
use Rattle.serde_json.specs.Read.{read}
use Rattle.safety_laws.specs.Ranks.{IsAmong}
use Rattle.safety_laws.specs.Trace.{TraceEvent, Appended, Acked, Restarted, Committed, Applied, candidate_log_in, leader_log_in}
use Rattle.trace_judge.specs.Line.{Says}
use Rattle.trace_judge.specs.Logs.{EndsInTerm, TakesMissing}
use Rattle.trace_judge.specs.Names.{Numbering}
use Rattle.trace_judge.specs.Numbers.{log_tests}

-- this holds of each event, after the events before it. The latest event is first
abbrev pub HoldAfter : (List (TraceEvent ℕ ℕ ℕ) → TraceEvent ℕ ℕ ℕ → Type 0) → List (TraceEvent ℕ ℕ ℕ)
    → List (TraceEvent ℕ ℕ ℕ) → Type 0
HoldAfter P before [] = Unit {0}
HoldAfter P before (e ∷ more) = P (more ++ before) e × HoldAfter P before more

-- a trace has events more, of each of which this holds after the events before it
abbrev pub AddsEach : (List (TraceEvent ℕ ℕ ℕ) → TraceEvent ℕ ℕ ℕ → Type 0) → List (TraceEvent ℕ ℕ ℕ)
    → List (TraceEvent ℕ ℕ ℕ) → Type 0
AddsEach P before after = (more : List (TraceEvent ℕ ℕ ℕ)) × HoldAfter P before more × (after ≡ more ++ before)

-- an event is filled in, after other events, for a line which says that a server applies entries: the server
-- acknowledges them, or a leader commits them, and at least the first entry of its own
abbrev pub IsFilledInFor : Numbering → ℕ → Data → List (TraceEvent ℕ ℕ ℕ) → TraceEvent ℕ ℕ ℕ → Type 0
IsFilledInFor number_of first d es (Acked s t c n) = Says number_of first d (Applied s t c n)
IsFilledInFor number_of first d es (Committed c t n m) =
    (s : ℕ) × (len : ℕ) × Says number_of first d (Applied s t c len)
    × (n ≡ max len (length (candidate_log_in log_tests es t c) + 1))
IsFilledInFor number_of first d es e = ⊥

-- an event is filled in, after other events, for a line which says that a server restarts: the server takes
-- from a leader the entries that its log lacks of those that it has read from its disk
abbrev pub IsRestoredFor : Numbering → ℕ → Data → List (TraceEvent ℕ ℕ ℕ) → TraceEvent ℕ ℕ ℕ → Type 0
IsRestoredFor number_of first d es (Appended s t c n sent) =
    let len = n + length sent in
    Says number_of first d (Restarted s len) × TakesMissing es s t c n sent
    × EndsInTerm d len (leader_log_in log_tests es t c)
IsRestoredFor number_of first d es e = ⊥

-- an event is filled in for one of these lines, in which a server applies entries, or for the first one, in
-- which a server restarts
abbrev pub IsFilledIn : Numbering → ℕ → List (List ℕ) → List (TraceEvent ℕ ℕ ℕ) → TraceEvent ℕ ℕ ℕ → Type 0
IsFilledIn number_of first lines es e =
    ((line : List ℕ) × (d : Data) × IsAmong line lines × (read line ≡ Some d) × IsFilledInFor number_of first d es e)
    ⊎ ((line : List ℕ) × (later : List (List ℕ)) × (d : Data) × (lines ≡ line ∷ later) × (read line ≡ Some d)
    × IsRestoredFor number_of first d es e)

-- a trace has events more, each of which is filled in for one of these lines
abbrev pub FillsIn : Numbering → ℕ → List (List ℕ) → List (TraceEvent ℕ ℕ ℕ) → List (TraceEvent ℕ ℕ ℕ) → Type 0
FillsIn number_of first lines before after = AddsEach (IsFilledIn number_of first lines) before after
