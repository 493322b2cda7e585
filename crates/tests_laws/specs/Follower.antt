-- A follower's log and steps as the theorems see them.
use Rattle.std.specs.Prelude.{◌≡◌, ◌⊎◌, ◌+◌, ◌<◌, ◌≤◌, ℕ, Bool, false, List, length, map, take, drop, get_or}
use Rattle.tests_laws.specs.declared.follower.LogEntry.{LogEntry}
use Rattle.safety_laws.specs.Log.{Entry, last_term}
use Rattle.safety_laws.specs.Events.{Event, History, log_after, term_after}
use Rattle.safety_laws.specs.Facts.{IsAppendEntries}
use Rattle.safety_laws.specs.Rules.{EventsFollowRules, FollowsRaft}
use Rattle.safety_laws.specs.Safety.{IsSafe}
use Rattle.safety_laws.specs.AppendEntries.{MayAppendAndAck, after_append_entries, has_next}

-- the rank of a term number is the number
abbrev pub number : ℕ → ℕ
number t = t

abbrev pub entry_of : LogEntry → Entry ℕ ℕ
entry_of e = record { term = e.term; content = e.content }

abbrev pub entries_of : List LogEntry → List (Entry ℕ ℕ)
entries_of es = map entry_of es

abbrev pub unset : LogEntry
unset = record { term = 0; content = 0 }

-- so many of these entries are in the log, and the next one is not
pub record IsShared (log : List LogEntry) (from : ℕ) (entries : List LogEntry) (n : ℕ) : Type 0
  where
    pub within : n ≤ length entries
    pub fits : from + n ≤ length log
    pub rest : after_append_entries number from (entries_of log) (entries_of entries)
        ≡ after_append_entries number (from + n) (entries_of log) (entries_of (drop n entries))
    pub next : n < length entries
        → has_next number (from + n) (entries_of log) (get_or entries n unset).term ≡ false

-- the log is truncated at the first of these entries that it does not have
pub record IsCutAtConflict (old : List LogEntry) (from : ℕ) (entries new : List LogEntry) : Type 0
  where
    pub kept : ℕ
    pub shared : IsShared old from entries kept
    pub conflict : kept < length entries
    pub is : new ≡ take (from + kept) old

-- in any safe history in which each server keeps the rules: if a server has the old log, and these
-- entries are those of an elected leader whose term it has not passed, and follow an entry whose term
-- the log has, it may have the new log, and then acknowledge them
abbrev pub MayTake : List (Entry ℕ ℕ) → ℕ → List (Entry ℕ ℕ) → List (Entry ℕ ℕ) → Type 0
MayTake old from entries new =
    (quorum : List (Entry ℕ ℕ) → (ℕ → Bool) → Bool) (h : History ℕ ℕ ℕ)
    → FollowsRaft number quorum h → IsSafe number quorum h → (s : ℕ) (es : List (Event ℕ ℕ ℕ))
    (t c : ℕ) → EventsFollowRules number quorum h s es → log_after es ≡ old
    → term_after number es ≤ t → IsAppendEntries number quorum h t c from entries
    → last_term number (take from old) ≡ last_term number (take from (h.leader_log t c))
    → MayAppendAndAck number quorum h es t c (from + length entries) new

-- the vote is in a term that was not reached, and for a log that is at least as up to date
abbrev pub MayVote : ℕ → List (Entry ℕ ℕ) → ℕ → ℕ → ℕ → Type 0
MayVote term log asked last len =
    (term < asked)
    × ((last_term number log < last) ⊎ ((last_term number log ≡ last) × (length log ≤ len)))
