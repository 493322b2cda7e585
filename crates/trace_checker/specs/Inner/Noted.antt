-- How the checker notes what is committed, if configs count once they are applied.
use Rattle.std.specs.Prelude.{◌≡◌, ◌⊎◌, ℕ, Bool, true, Option, ◌≤◌, nat_eq, List, [], ◌∷◌, ◌++◌, length, take, get_or}
use Rattle.safety_laws.specs.Log.{Entry}
use Rattle.safety_laws.specs.Trace.{Tests, same_entry}
use Rattle.trace_checker.specs.Inner.CheckerState.{common_len}
use Rattle.trace_checker.specs.Inner.Kept.{Parts}
use Rattle.trace_checker.specs.Inner.Logs.{AllLogs, AreDistinct, IsExact, log_at}
use Rattle.safety_laws.specs.declared.counting.ConfigsCount.{ConfigsCount}
use Rattle.safety_laws.specs.declared.counting.ConfigsCount.TheVariants.{WhenAppended, WhenApplied}
use Rattle.trace_checker.specs.declared.checker.known.Commit.{Commit}
use Rattle.trace_checker.specs.declared.checker.leader.Leader.{Leader}

module _ {T D : Type 0} (same : Entry T D → Entry T D → Bool) (logs : AllLogs T D) where
  -- a commit is of the same term as an earlier one, counted at the same length, and has all its entries
  pub record Continues (earlier commit : Commit) : Type 0 where
    pub rank : commit.rank ≡ earlier.rank
    pub counted_at : commit.counted_at ≡ earlier.counted_at
    pub longer : IsExact same → AreDistinct logs
        → nat_eq (common_len same (log_at logs earlier.log) (log_at logs commit.log))
        (length (log_at logs earlier.log)) ≡ true

  -- a commit takes the place of the last one, which it continues
  pub record IsLonger (old : List Commit) (commit : Commit) (new : List Commit) : Type 0 where
    pub earlier : List Commit
    pub last : Commit
    pub continues : Continues last commit
    pub was : old ≡ earlier ++ last ∷ []
    pub is : new ≡ earlier ++ commit ∷ []

  -- a commit is added, or it takes the place of the last one
  abbrev pub IsNoted : List Commit → Commit → List Commit → Type 0
  IsNoted old commit new = (new ≡ old ++ commit ∷ []) ⊎ IsLonger old commit new

module _ {T ID D : Type 0} (k : Tests T ID D (Option D)) (p : Parts T ID D) where
  -- the commit of so many first entries by the leader at this place is noted
  pub record HasNoted (leader len counted_at : ℕ) (new : List Commit) : Type 0 where
    pub commit : Commit
    pub rank : (l : Leader T ID) → l ≡ get_or p.leaders leader l → commit.rank ≡ k.rank l.term
    pub at : commit.counted_at ≡ counted_at
    pub log : (l : Leader T ID) → l ≡ get_or p.leaders leader l
        → log_at p.logs commit.log ≡ take len (log_at p.logs l.log)
    pub earlier : (l : Leader T ID) → l ≡ get_or p.leaders leader l → commit.log ≤ l.log
    pub is : IsNoted (same_entry k) p.logs p.commits commit new

  -- it is noted if configs count once they are applied
  abbrev pub IsNotedWhen : ConfigsCount → ℕ → ℕ → ℕ → List Commit → Type 0
  IsNotedWhen WhenAppended leader len counted_at new = new ≡ p.commits
  IsNotedWhen WhenApplied leader len counted_at new = HasNoted leader len counted_at new

  abbrev pub IsNotedBy : ℕ → ℕ → ℕ → List Commit → Type 0
  IsNotedBy leader len counted_at new = IsNotedWhen k.counting leader len counted_at new
