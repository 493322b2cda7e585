-- The lines that a judge has taken, and the trace that it keeps of them.
use Rattle.std.specs.Prelude.{◌≡◌, ℕ, List, [], ◌∷◌, Option, Some, None, codes}
use Rattle.serde_json.specs.Data.{Data}
use Rattle.safety_laws.specs.Ranks.{IsAmong}
use Rattle.safety_laws.specs.Trace.{AreExact, Tests, TraceEvent, Applied, Restarted}
use Rattle.trace_checker.specs.Checker.{Keeps, configs_of, counting_of, kept_by}
use Rattle.safety_laws.specs.declared.counting.ConfigsCount.{ConfigsCount}
use Rattle.trace_checker.specs.declared.checker.violation.Violation.TheVariants.{Rule as BreaksRule}
use Rattle.trace_checker.specs.declared.memberships.Memberships.{Memberships}
use Rattle.trace_judge.specs.Fields.{number_in}
use Rattle.trace_judge.specs.Filled.{AddsEach, IsFilledInFor, IsRestoredFor}
use Rattle.trace_judge.specs.Inner.Table.{Extends, IsTable, numbering}
use Rattle.trace_judge.specs.Inner.Votes.{AreVotesIn}
use Rattle.trace_judge.specs.Line.{Says}
use Rattle.trace_judge.specs.Logs.{FitsLogs}
use Rattle.trace_judge.specs.Names.{Numbering}
use Rattle.trace_judge.specs.Run.{Adds, AddsMembership, Held, IsTraceOf, SaysMembership, SaysStart}
use Rattle.trace_judge.specs.declared.fault.Fault.TheVariants.{Malformed, Refused, Skips}
use Rattle.trace_judge.specs.declared.fault.Fault.{Fault}
use Rattle.trace_judge.specs.declared.judge.Judge.{Judge}

-- a line says the start of a judge
abbrev pub SaysStartOf : List ℕ → Judge → Type 0
SaysStartOf line judge =
    SaysStart (numbering judge.names) line (configs_of judge.checker).initial.items judge.first
    (counting_of judge.checker)

-- a line that says an event says another one too, which fits all logs, and whose entry holds no membership
abbrev pub SaysToo : Data → TraceEvent ℕ ℕ ℕ → TraceEvent ℕ ℕ ℕ → Type 0
SaysToo d e other =
    (number_of : Numbering) (first : ℕ) → Says number_of first d e
    → Says number_of first d other × SaysMembership number_of d other None
    × ((es : List (TraceEvent ℕ ℕ ℕ)) → FitsLogs first es d other)

-- a line is broken: it is no event, it has not the next index of its leader, or it breaks a rule
abbrev pub IsBroken : Fault → Type 0
IsBroken Malformed = Unit {0}
IsBroken (Skips last) = Unit {0}
IsBroken (Refused (BreaksRule rule)) = Unit {0}
IsBroken fault = ⊥

module _ (tests : ConfigsCount → Memberships ℕ ℕ → Tests ℕ ℕ ℕ (Option ℕ)) where
  -- how a judge tests events
  abbrev pub tests_for : Judge → Tests ℕ ℕ ℕ (Option ℕ)
  tests_for judge = tests (counting_of judge.checker) (configs_of judge.checker)

  -- a judge keeps the events of a trace, remembers votes of it, and has a table of names
  pub record KeepsTrace (judge : Judge) (es : List (TraceEvent ℕ ℕ ℕ)) : Type 0 where
    pub exact : AreExact (tests_for judge)
    pub table : IsTable judge.names
    pub keeps : Keeps (tests_for judge) es (kept_by judge.checker)
    pub votes : AreVotesIn judge.counts.votes.entries es

  -- the memberships that a judge knows of entries
  abbrev pub held_by : Judge → List Held
  held_by judge = (configs_of judge.checker).held.items

  -- a judge has taken these lines, the latest first, before other lines that come later
  pub record HasTaken (later taken : List (List ℕ)) (judge : Judge) : Type 0 where
    pub trace : List (TraceEvent ℕ ℕ ℕ)
    pub is_trace : IsTraceOf (numbering judge.names) judge.first later taken (held_by judge) trace
    pub keeps : KeepsTrace judge trace

  -- a judge that has taken no line after the first one
  abbrev pub IsStarted : List ℕ → Judge → Type 0
  IsStarted line judge = SaysStartOf line judge × ((later : List (List ℕ)) → HasTaken later [] judge)

  -- a judge goes on with the same first membership and the same first index, names keep their numbers, and
  -- configs count as before
  abbrev pub GoesOn : Judge → Judge → Type 0
  GoesOn old new =
      ((configs_of new.checker).initial ≡ (configs_of old.checker).initial) × (new.first ≡ old.first)
      × Extends (numbering old.names) (numbering new.names)
      × (counting_of new.checker ≡ counting_of old.checker)

  -- a judge takes one line more
  abbrev pub Takes : List ℕ → Judge → Judge → Type 0
  Takes line old new =
      GoesOn old new
      × ((later taken : List (List ℕ)) → HasTaken (line ∷ later) taken old → HasTaken later (line ∷ taken) new)

  -- a judge does not take a line, which comes later: what it had taken, it still has taken
  abbrev pub Refuses : List ℕ → Judge → Judge → Type 0
  Refuses line old new =
      GoesOn old new
      × ((later taken : List (List ℕ)) → IsAmong line later → HasTaken later taken old → HasTaken later taken new)

  -- if a judge keeps the events of a trace, it then keeps those of another, which this relates to the
  -- first, and it knows the membership more, if there is one
  abbrev pub KeepsMore : (List (TraceEvent ℕ ℕ ℕ) → List (TraceEvent ℕ ℕ ℕ) → Type 0) → Option Held → Judge → Judge
      → Type 0
  KeepsMore P m old new =
      GoesOn old new
      × ((es : List (TraceEvent ℕ ℕ ℕ)) → KeepsTrace old es
      → (after : List (TraceEvent ℕ ℕ ℕ)) × P es after
      × AddsMembership m (held_by old) (held_by new) × KeepsTrace new after)

  -- a judge keeps the same events
  abbrev pub Stays : Judge → Judge → Type 0
  Stays old new = KeepsMore (λ es after. after ≡ es) None old new

  -- a judge fills in events that fulfil this
  abbrev pub FillsBy : (List (TraceEvent ℕ ℕ ℕ) → TraceEvent ℕ ℕ ℕ → Type 0) → Judge → Judge → Type 0
  FillsBy P old new = KeepsMore (AddsEach P) None old new

  -- a judge fills in events for a line of a server that applies entries, by these numbers of names
  abbrev pub FillsFor : Numbering → ℕ → Data → Judge → Judge → Type 0
  FillsFor number_of first d old new = FillsBy (IsFilledInFor number_of first d) old new

  -- a judge fills in events for a line of a server that restarts, by these numbers of names
  abbrev pub RestoresFor : Numbering → ℕ → Data → Judge → Judge → Type 0
  RestoresFor number_of first d old new = FillsBy (IsRestoredFor number_of first d) old new

  -- a judge fills in events for each line that says that a server applies so many first entries
  abbrev pub FillsApplied : ℕ → ℕ → Judge → Judge → Type 0
  FillsApplied s n old new =
      (number_of : Numbering) (first : ℕ) (d : Data) → Says number_of first d (Applied s 0 0 n)
      → FillsFor number_of first d old new

  -- a judge fills in events for each line that says that a server restarts with so many first entries, of
  -- which the last one is of a term
  abbrev pub FillsRestarted : ℕ → ℕ → ℕ → Judge → Judge → Type 0
  FillsRestarted s n t old new =
      (number_of : Numbering) (first : ℕ) (d : Data) → Says number_of first d (Restarted s n)
      → number_in (codes "last_term") d ≡ Some t → RestoresFor number_of first d old new

  -- a judge fills in an event for each line of a server that applies entries, if it may be filled in
  abbrev pub FillsInto : TraceEvent ℕ ℕ ℕ → Judge → Judge → Type 0
  FillsInto e old new =
      (number_of : Numbering) (first : ℕ) (d : Data)
      → ((es : List (TraceEvent ℕ ℕ ℕ)) → KeepsTrace old es → IsFilledInFor number_of first d es e)
      → FillsFor number_of first d old new

  -- a judge fills in an event for each line of a server that restarts, if it may be filled in
  abbrev pub RestoresInto : TraceEvent ℕ ℕ ℕ → Judge → Judge → Type 0
  RestoresInto e old new =
      (number_of : Numbering) (first : ℕ) (d : Data)
      → ((es : List (TraceEvent ℕ ℕ ℕ)) → KeepsTrace old es → IsRestoredFor number_of first d es e)
      → RestoresFor number_of first d old new

  -- a judge takes one event more, whose entry holds the membership, if there is one
  abbrev pub TakesEvent : TraceEvent ℕ ℕ ℕ → Option Held → Judge → Judge → Type 0
  TakesEvent e m old new = KeepsMore (Adds e) m old new

  -- a judge takes one event more, whose entry holds this membership or an equal one, as a line says it
  abbrev pub TakesHolding : TraceEvent ℕ ℕ ℕ → Held → Judge → Judge → Type 0
  TakesHolding e m old new =
      (number_of : Numbering) (d : Data) → SaysMembership number_of d e (Some m)
      → (n : Held) × SaysMembership number_of d e (Some n) × TakesEvent e (Some n) old new

  -- an event of a line fits the logs that a judge knows
  abbrev pub Fits : Data → TraceEvent ℕ ℕ ℕ → Judge → Type 0
  Fits d e judge = (es : List (TraceEvent ℕ ℕ ℕ)) → KeepsTrace judge es → FitsLogs judge.first es d e

  -- a judge takes the event that a line says
  abbrev pub TakesSaid : Data → Judge → Judge → Type 0
  TakesSaid d old new =
      (e : TraceEvent ℕ ℕ ℕ) × ((m : Option Held) × Says (numbering old.names) old.first d e × Fits d e old
      × SaysMembership (numbering old.names) d e m × TakesEvent e m old new)
