-- What lines say of the logs of a trace.
use Rattle.std.specs.Prelude.{◌≡◌, ◌⊎◌, ◌+◌, ℕ, List, Some, None, IfSome, codes, drop, length, min, take}
use Rattle.serde_json.specs.Data.{Data}
use Rattle.serde_json.specs.Find.{get}
use Rattle.safety_laws.specs.Log.{Entry}
use Rattle.safety_laws.specs.Trace.{TraceEvent, Appended, Restarted, Wrote, common_prefix, leader_log_in, log_in}
use Rattle.trace_checker.specs.Checker.{entry_at}
use Rattle.trace_judge.specs.Fields.{number_in}
use Rattle.trace_judge.specs.Numbers.{log_tests}

-- a server keeps as many entries as its log and the log of the leader of a term have in common, and takes
-- the entries of the leader that come then
abbrev pub TakesMissing : List (TraceEvent ℕ ℕ ℕ) → ℕ → ℕ → ℕ → ℕ → List (Entry ℕ ℕ) → Type 0
TakesMissing es s t c n sent =
    let log = leader_log_in log_tests es t c in
    let common = common_prefix log_tests (log_in log_tests es s) log in
    (n ≡ min (length common) (n + length sent)) × (sent ≡ drop n (take (n + length sent) log))

-- the last of so many entries is of the term that a line says
abbrev pub EndsInTerm : Data → ℕ → List (Entry ℕ ℕ) → Type 0
EndsInTerm d n log =
    (e : Entry ℕ ℕ) × (entry_at n log ≡ Some e) × (number_in (codes "last_term") d ≡ Some e.term)

-- an entry has the index after the last one of its leader, if the line says an index
abbrev pub HasNextIndex : ℕ → List (TraceEvent ℕ ℕ ℕ) → Data → TraceEvent ℕ ℕ ℕ → Type 0
HasNextIndex first es d (Wrote c t e) =
    (get (codes "index") d ≡ None)
    ⊎ (number_in (codes "index") d ≡ Some (first + length (leader_log_in log_tests es t c)))
HasNextIndex first es d e = Unit {0}

-- a server restarts with a last entry of the term that the line says, if it says one and there is an entry
abbrev pub HasLastTerm : List (TraceEvent ℕ ℕ ℕ) → Data → TraceEvent ℕ ℕ ℕ → Type 0
HasLastTerm es d (Restarted s n) =
    (get (codes "last_term") d ≡ None)
    ⊎ IfSome (entry_at n (log_in log_tests es s)) (λ e. number_in (codes "last_term") d ≡ Some e.term)
HasLastTerm es d e = Unit {0}

-- a snapshot, whose line has no entries, has the entries of the leader
abbrev pub HasLeaderEntries : List (TraceEvent ℕ ℕ ℕ) → Data → TraceEvent ℕ ℕ ℕ → Type 0
HasLeaderEntries es d (Appended s t c n sent) = get (codes "entries") d ≡ None → TakesMissing es s t c n sent
HasLeaderEntries es d e = Unit {0}

-- what a line says of logs fits the logs after the events before it
abbrev pub FitsLogs : ℕ → List (TraceEvent ℕ ℕ ℕ) → Data → TraceEvent ℕ ℕ ℕ → Type 0
FitsLogs first es d e = HasNextIndex first es d e × HasLastTerm es d e × HasLeaderEntries es d e
