-- What a line says of an event.
use Rattle.std.specs.Prelude.{◌≡◌, ◌⊎◌, ◌+◌, ℕ, List, Some, None, codes, length}
use Rattle.serde_json.specs.Data.{Data}
use Rattle.serde_json.specs.Find.{get}
use Rattle.safety_laws.specs.Log.{Entry}
use Rattle.safety_laws.specs.Trace.{TraceEvent, Campaigned, Granted, Appended, Acked, Restarted, Wrote, Committed, Applied}
use Rattle.trace_judge.specs.Fields.{HasEntries, IsId, IsLen, IsNamed, number_in}
use Rattle.trace_judge.specs.Names.{Numbering}

-- a vote of a server for another one
abbrev pub IsVote : TraceEvent ℕ ℕ ℕ → Type 0
IsVote (Granted s t c) = Unit {0}
IsVote e = ⊥

-- names have these numbers
module _ (number_of : Numbering) where
  -- a line says which entries a server takes: it keeps those up to the index `prev`, and these come then. A
  -- line without entries is of a snapshot, which has all entries of the leader up to its index: those that
  -- the server keeps, and these
  abbrev pub SaysEntries : ℕ → Data → ℕ → List (Entry ℕ ℕ) → Type 0
  SaysEntries first d n sent =
      (IsLen (codes "prev") first n d × HasEntries number_of d sent)
      ⊎ ((get (codes "entries") d ≡ None) × IsLen (codes "index") first (n + length sent) d)

  -- a line says an event, where the first entry has this index. It does not say which leader has
  -- committed what a server applies, and it need not say by which config a leader counts. The entries of a
  -- snapshot, and what a line says of a log, are those that fit the logs (`FitsLogs`)
  abbrev pub Says : ℕ → Data → TraceEvent ℕ ℕ ℕ → Type 0
  Says first d (Campaigned s t) =
      IsNamed (codes "campaigned") d
      × IsId number_of (codes "server") s d
      × (number_in (codes "term") d ≡ Some t)
  Says first d (Granted s t c) =
      IsNamed (codes "granted") d
      × IsId number_of (codes "server") s d
      × (number_in (codes "term") d ≡ Some t)
      × IsId number_of (codes "candidate") c d
  Says first d (Appended s t c n sent) =
      IsNamed (codes "appended") d
      × IsId number_of (codes "server") s d
      × (number_in (codes "term") d ≡ Some t)
      × IsId number_of (codes "leader") c d
      × SaysEntries first d n sent
  Says first d (Acked s t c n) =
      IsNamed (codes "acked") d
      × IsId number_of (codes "server") s d
      × (number_in (codes "term") d ≡ Some t)
      × IsId number_of (codes "leader") c d
      × IsLen (codes "index") first n d
  Says first d (Restarted s n) =
      IsNamed (codes "restarted") d
      × IsId number_of (codes "server") s d
      × IsLen (codes "index") first n d
  Says first d (Wrote c t e) =
      IsNamed (codes "wrote") d
      × IsId number_of (codes "leader") c d
      × (number_in (codes "term") d ≡ Some t)
      × (e.term ≡ t)
      × IsId number_of (codes "content") e.content d
  Says first d (Committed c t n m) =
      IsNamed (codes "committed") d
      × IsId number_of (codes "leader") c d
      × (number_in (codes "term") d ≡ Some t)
      × IsLen (codes "index") first n d
      × ((get (codes "counted_at") d ≡ None) ⊎ IsLen (codes "counted_at") first m d)
  Says first d (Applied s t c n) =
      IsNamed (codes "applied") d
      × IsId number_of (codes "server") s d
      × IsLen (codes "index") first n d
