-- What the checker knows to be committed, if configs count once they are applied.
use Rattle.std.specs.Prelude.{◌≡◌, ◌≤◌, ℕ, Bool, true, false, not, ◌&&◌, ◌||◌, nat_lt, nat_eq, Option, List, [], ◌∷◌, length, take, drop}
use Rattle.std.specs.List.{list_any}
use Rattle.safety_laws.specs.Log.{Entry}
use Rattle.safety_laws.specs.AppliedTrace.{hold_at_most_one, is_shorter, some_upto}
use Rattle.safety_laws.specs.Trace.{Tests, TraceEvent, hold_no_config, is_known_by, is_quorum_of_log, same_entry}
use Rattle.trace_checker.specs.Inner.CheckerState.{common_len, no_config_in}
use Rattle.trace_checker.specs.Inner.Logs.{AllLogs, log_at}
use Rattle.trace_checker.specs.declared.checker.known.Commit.{Commit}
use Rattle.safety_laws.specs.declared.counting.ConfigsCount.{ConfigsCount}
use Rattle.safety_laws.specs.declared.counting.ConfigsCount.TheVariants.{WhenAppended, WhenApplied}

-- a commit: the rank of its term, the length at which it was counted, and the committed entries
pub record CommitState (T D : Type 0) : Type 0 where
  pub rank : ℕ
  pub counted_at : ℕ
  pub entries : List (Entry T D)

-- what is kept of a commit, with the entries of its log
abbrev pub commit_in : {T D : Type 0} → AllLogs T D → Commit → CommitState T D
commit_in logs c = record { rank = c.rank; counted_at = c.counted_at; entries = log_at logs c.log }

-- no commit has a log with a number that is greater than this one
abbrev pub AreUpTo : ℕ → List Commit → Type 0
AreUpTo n [] = Unit {0}
AreUpTo n (c ∷ commits) = (c.log ≤ n) × AreUpTo n commits

-- configs count once they are applied
abbrev pub is_applied : ConfigsCount → Bool
is_applied WhenAppended = false
is_applied WhenApplied = true

-- at most one of the entries holds a config
abbrev pub at_most_one_in : {T D : Type 0} → (D → Bool) → List (Entry T D) → Bool
at_most_one_in holds [] = true
at_most_one_in holds (e ∷ es) = no_config_in holds es || (not (holds e.content) && at_most_one_in holds es)

module _ {T D : Type 0} (same : Entry T D → Entry T D → Bool) where
  -- a commit covers these entries, and it is of an earlier term than this one, or of this one and counted
  -- at a shorter length
  abbrev pub covers : ℕ → ℕ → List (Entry T D) → CommitState T D → Bool
  covers r a p c =
      (nat_lt c.rank r || (nat_eq c.rank r && nat_lt c.counted_at a))
      && nat_eq (common_len same p c.entries) (length p)

  -- one of the commits covers these entries early enough
  abbrev pub any_covers : ℕ → ℕ → List (Entry T D) → List (CommitState T D) → Bool
  any_covers r a p commits = list_any (covers r a p) commits

  -- the last config of these entries is the initial one, or it is known
  abbrev pub is_config_known : (D → Bool) → ℕ → ℕ → List (Entry T D) → List (CommitState T D) → Bool
  is_config_known holds r a p commits = no_config_in holds p || any_covers r a p commits

module _ {T ID D M : Type 0} (k : Tests T ID D M) where
  -- whether these voters elect a candidate of this term with this log, by the commits that are kept
  abbrev pub elected_in : ConfigsCount → List (CommitState T D) → T → List (Entry T D) → (ID → Bool) → Bool
  elected_in WhenAppended commits t log voters = is_quorum_of_log k log voters
  elected_in WhenApplied commits t log voters =
      some_upto (length log)
      (λ a. (hold_no_config k (take a log) || any_covers (same_entry k) (k.rank t) 0 (take a log) commits)
      && (hold_at_most_one k (drop a log) && is_quorum_of_log k (take a log) voters))

module _ {T ID D : Type 0} (k : Tests T ID D (Option D)) where
  -- what is kept of commits is what the events say, if configs count once they are applied
  abbrev pub SeesKnownBy : ConfigsCount → List (TraceEvent T ID D) → List (CommitState T D) → Type 0
  SeesKnownBy WhenAppended es commits = Unit {0}
  SeesKnownBy WhenApplied es commits =
      (t : T) (a : ℕ) (p : List (Entry T D))
      → is_known_by k (is_shorter k t a) p es ≡ any_covers (same_entry k) (k.rank t) a p commits
