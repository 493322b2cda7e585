-- How a line is read in parts.
use Rattle.std.specs.Prelude.{◌≡◌, ◌+◌, ℕ, List, Some, codes, length}
use Rattle.serde_json.specs.Data.{Data}
use Rattle.safety_laws.specs.Log.{Entry}
use Rattle.safety_laws.specs.Trace.{TraceEvent, Appended}
use Rattle.trace_judge.specs.Fields.{IsId, IsLen, IsNamed, number_in}
use Rattle.trace_judge.specs.Logs.{TakesMissing}
use Rattle.trace_judge.specs.Names.{Numbering}

-- a server takes entries of the leader of a term, and has so many then: those that it keeps, and those
-- that are sent
abbrev pub TakesUpTo : ℕ → ℕ → ℕ → ℕ → TraceEvent ℕ ℕ ℕ → Type 0
TakesUpTo s t c len e =
    (n : ℕ) × ((sent : List (Entry ℕ ℕ)) × (e ≡ Appended s t c n sent) × (n + length sent ≡ len))

-- a server takes the entries of a leader that its log lacks
abbrev pub IsMissing : List (TraceEvent ℕ ℕ ℕ) → TraceEvent ℕ ℕ ℕ → Type 0
IsMissing es (Appended s t c n sent) = TakesMissing es s t c n sent
IsMissing es e = Unit {0}

-- names have these numbers
module _ (number_of : Numbering) where
  -- what a line says of a server that takes entries, but for the entries: up to the index of this field
  abbrev pub IsTaken : List ℕ → ℕ → Data → ℕ × ℕ × ℕ × ℕ → Type 0
  IsTaken name first d t =
      IsNamed (codes "appended") d
      × IsId number_of (codes "server") t.0 d
      × (number_in (codes "term") d ≡ Some t.1)
      × IsId number_of (codes "leader") t.2 d
      × IsLen name first t.3 d
