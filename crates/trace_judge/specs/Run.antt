-- A recorded run, and the trace that its lines say.
use Rattle.std.specs.Prelude.{◌≡◌, ◌⊎◌, ℕ, true, List, [], ◌∷◌, ◌++◌, Option, Some, None, codes}
use Rattle.std.specs.Global.{Vec}
use Rattle.serde_json.specs.Data.{Data}
use Rattle.serde_json.specs.Find.{get}
use Rattle.serde_json.specs.Read.{read}
use Rattle.safety_laws.specs.Ranks.{IsAmong}
use Rattle.safety_laws.specs.Trace.{Tests, TraceEvent, Wrote}
use Rattle.trace_checker.specs.Counted.{IsSafeWhen, are_all_allowed}
use Rattle.safety_laws.specs.declared.counting.ConfigsCount.{ConfigsCount}
use Rattle.trace_checker.specs.declared.memberships.Memberships.{Memberships}
use Rattle.trace_judge.specs.Filled.{FillsIn}
use Rattle.trace_judge.specs.Fields.{HasConfigs, IsCounting, IsFirst, IsNamed}
use Rattle.trace_judge.specs.Line.{IsVote, Says}
use Rattle.trace_judge.specs.Logs.{FitsLogs}
use Rattle.trace_judge.specs.Names.{AreApart, Numbering}

-- a trace has one event more, or the event is a vote that the trace has already
abbrev pub Adds : TraceEvent ℕ ℕ ℕ → List (TraceEvent ℕ ℕ ℕ) → List (TraceEvent ℕ ℕ ℕ) → Type 0
Adds e before after = (after ≡ e ∷ before) ⊎ (IsVote e × IsAmong e before × (after ≡ before))

-- a membership, with the content of the entries that hold it
abbrev pub Held : Type 0
Held = ℕ × Vec (Vec ℕ)

-- a line says which membership the entry of its event holds, if it holds one
abbrev pub SaysMembership : Numbering → Data → TraceEvent ℕ ℕ ℕ → Option Held → Type 0
SaysMembership number_of d (Wrote c t e) (Some m) = (m.0 ≡ e.content) × HasConfigs number_of d m.1.items
SaysMembership number_of d (Wrote c t e) None = get (codes "voters") d ≡ None
SaysMembership number_of d e (Some m) = ⊥
SaysMembership number_of d e None = Unit {0}

-- there is this membership more, or it was there before
abbrev pub AddsMembership : Option Held → List Held → List Held → Type 0
AddsMembership None before after = after ≡ before
AddsMembership (Some m) before after = (after ≡ before ++ m ∷ []) ⊎ (IsAmong m before × (after ≡ before))

-- a trace has the event more that a line says, which fits the logs so far, and there is the membership
-- more that its entry holds. An empty line says nothing
abbrev pub AddsLine : Numbering → ℕ → List ℕ → List Held → List (TraceEvent ℕ ℕ ℕ) → List Held
    → List (TraceEvent ℕ ℕ ℕ) → Type 0
AddsLine number_of first line known before held after =
    ((line ≡ []) × (held ≡ known) × (after ≡ before))
    ⊎ ((d : Data) × (e : TraceEvent ℕ ℕ ℕ) × (m : Option Held) × (read line ≡ Some d)
    × Says number_of first d e × FitsLogs first before d e × SaysMembership number_of d e m
    × AddsMembership m known held × Adds e before after)

-- a trace is what these lines say, in their order, but for votes that it has already, and for events that
-- are filled in: directly before a line for which a server restarts, or anywhere before a line for which it
-- applies entries. The memberships are those that lines say. The latest line and the latest event are
-- first. `later` are the lines that come after these
abbrev pub IsTraceOf : Numbering → ℕ → List (List ℕ) → List (List ℕ) → List Held → List (TraceEvent ℕ ℕ ℕ) → Type 0
IsTraceOf number_of first later [] held es = (held ≡ []) × FillsIn number_of first later [] es
IsTraceOf number_of first later (line ∷ earlier) held es =
    (known : List Held) × (before : List (TraceEvent ℕ ℕ ℕ))
    × IsTraceOf number_of first (line ∷ later) earlier known before
    × ((after : List (TraceEvent ℕ ℕ ℕ)) × AddsLine number_of first line known before held after
    × FillsIn number_of first later after es)

-- lines after which others come, the latest first
abbrev pub and_lines : List (List ℕ) → List (List ℕ) → List (List ℕ)
and_lines earlier [] = earlier
and_lines earlier (line ∷ later) = and_lines (line ∷ earlier) later

-- how a line says that the cluster starts: the configs of the voters, the index of the first entry, and
-- when configs count
abbrev pub SaysStart : Numbering → List ℕ → List (Vec ℕ) → ℕ → ConfigsCount → Type 0
SaysStart number_of line configs first counting =
    (d : Data) × (read line ≡ Some d) × IsNamed (codes "started") d
    × HasConfigs number_of d configs × IsFirst first d × IsCounting counting d

-- two lines say that the cluster starts, with the same voters and the same index of the first entry, and
-- configs count in the same way
abbrev pub SayOneStart : List ℕ → List ℕ → Type 0
SayOneStart line other =
    (number_of : Numbering) × AreApart number_of
    × ((configs : List (Vec ℕ)) × (first : ℕ) × (counting : ConfigsCount)
    × SaysStart number_of line configs first counting × SaysStart number_of other configs first counting)

-- the lines after the first one, without those that say the start again. These say no event
abbrev pub LeavesStartsOut : List ℕ → List (List ℕ) → List (List ℕ) → Type 0
LeavesStartsOut first_line [] kept = kept ≡ []
LeavesStartsOut first_line (line ∷ later) kept =
    (SayOneStart first_line line × LeavesStartsOut first_line later kept)
    ⊎ ((rest : List (List ℕ)) × (kept ≡ line ∷ rest) × LeavesStartsOut first_line later rest)

module _ (tests : ConfigsCount → Memberships ℕ ℕ → Tests ℕ ℕ ℕ (Option ℕ)) where
  -- the lines after the first one are a trace that is allowed, and so it is safe. The numbers in it stand
  -- for the names that the lines have. `waiting` are lines that come after these and were not taken
  pub record SafeRun (waiting run : List (List ℕ)) : Type 0 where
    pub first_line : List ℕ
    pub later : List (List ℕ)
    pub lines_are : run ≡ first_line ∷ later
    pub kept : List (List ℕ)
    pub are_kept : LeavesStartsOut first_line later kept
    pub members : Memberships ℕ ℕ
    pub first : ℕ
    pub counting : ConfigsCount
    pub number_of : Numbering
    pub apart : AreApart number_of
    pub starts : SaysStart number_of first_line members.initial.items first counting
    pub trace : List (TraceEvent ℕ ℕ ℕ)
    pub is_trace : IsTraceOf number_of first waiting (and_lines [] kept) members.held.items trace
    pub allowed : are_all_allowed (tests counting members) trace ≡ true
    pub safe : IsSafeWhen (tests counting members) trace
