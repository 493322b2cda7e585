-- What an update does to a progress.
use Rattle.std.specs.Prelude.{◌≡◌, ℕ, ◌^◌, ◌<◌, ◌≤◌, Bool, ◌&&◌, Option, Some, None, [], if◌then◌else◌, true, false}
use Rattle.std.specs.declared.cmp.Ordering.{Ordering}
use Rattle.std.specs.Option.{ForSome}
use Rattle.std.specs.Ordering.{is_le, is_lt, partial_gt}
use Rattle.std.specs.Map.{set_value}
use Rattle.raft_progress.specs.progress.CountedValue.{AtMost}
use Rattle.raft_progress.specs.progress.ProgressState.{Writes}
use Rattle.raft_progress.specs.progress.Statistics.{count_after}
use Rattle.raft_progress.specs.progress.Entries.{entries_after_rise}
use Rattle.raft_progress.specs.progress.ProgressView.{ProgressView, state}

module _ {ID V P QS : Type 0} (eq : ID → ID → Bool) (cmp : P → P → Ordering) (part : V → P) where
  -- whether the id is a voter whose part has risen to one that exceeds what was granted
  abbrev pub rises_past_granted : ProgressView ID V P QS → ID → V → V → Bool
  rises_past_granted old id v w =
      (state eq old).is_voter id
      && (is_lt (cmp (part v) (part w)) && is_lt (cmp old.granted (part w)))

  -- whether the id is a voter whose part was at most what was granted, and now exceeds it
  abbrev pub passes_granted : ProgressView ID V P QS → ID → V → V → Bool
  passes_granted old id v w =
      (state eq old).is_voter id
      && (is_le (cmp (part v) old.granted) && is_lt (cmp old.granted (part w)))

  -- The entries, granted and the counts after the value of a known id went from v to w. A voter
  -- whose part rises past granted moves up among the entries. Quorums are tested only if granted
  -- may rise, and at most k times if the number of voters is less than 2^k.
  pub record IsSettled (old : ProgressView ID V P QS) (id : ID) (v w : V) (new : ProgressView ID V P QS)
      : Type 0 where
    pub rises : rises_past_granted old id v w ≡ true
        → (new.entries ≡ entries_after_rise cmp part (eq id) [] (set_value (eq id) old.entries w))
        × (new.stat.move_count ≡ count_after old.stat.move_count 1)
    pub stays : rises_past_granted old id v w ≡ false
        → (new.entries ≡ set_value (eq id) old.entries w) × (new.stat.move_count ≡ old.stat.move_count)
    pub tests : ℕ
    pub counts_tests : new.stat.is_quorum_count ≡ count_after old.stat.is_quorum_count tests
    pub few_tests : (k : ℕ) → old.voter_count < 2 ^ k → tests ≤ k
    pub tested_to_rise : is_lt (cmp old.granted new.granted) ≡ true → 1 ≤ tests
    pub not_tested : passes_granted old id v w ≡ false → (tests ≡ 0) × (new.granted ≡ old.granted)

  -- After an update of an id, whose value became one that Left allows: granted never falls, and for
  -- an unknown id only the count of updates has changed.
  pub record IsUpdated (Left : V → V → Type 0) (old : ProgressView ID V P QS) (id : ID)
      (new : ProgressView ID V P QS) : Type 0 where
    pub counts : new.stat.update_count ≡ count_after old.stat.update_count 1
    pub same_voter_count : new.voter_count ≡ old.voter_count
    pub monotone : AtMost cmp old.granted new.granted
    pub known : (v : V) → (state eq old).value id ≡ Some v
        → (w : V) × Left v w × Writes eq (state eq old) id w (state eq new)
        × IsSettled old id v w new
    pub unknown : (state eq old).value id ≡ None
        → new ≡ record old {
          stat = record old.stat { update_count = count_after old.stat.update_count 1 };
        }

module _ {ID V P QS : Type 0} (eq : ID → ID → Bool) (cmp : P → P → Ordering) (part : V → P) where
  -- the part of the value that an id has is not above the part of another value
  abbrev pub IsNotLower : ProgressView ID V P QS → ID → V → Type 0
  IsNotLower old id value =
      ForSome ((state eq old).value id) (λ v. AtMost cmp (part v) (part value))

  -- if another value is greater than the value that an id has, its part is not below
  abbrev pub IsNotLowerIfGreater : (V → V → Option Ordering) → ProgressView ID V P QS → ID → V → Type 0
  IsNotLowerIfGreater partial_cmp old id value =
      ForSome ((state eq old).value id)
      (λ v. partial_gt partial_cmp value v ≡ true → AtMost cmp (part v) (part value))

  -- the part of the value that an id has is not above the part of any value that Left allows
  abbrev pub NeverFalls : (V → V → Type 0) → ProgressView ID V P QS → ID → Type 0
  NeverFalls Left old id =
      (v w : V) → (state eq old).value id ≡ Some v → Left v w → AtMost cmp (part v) (part w)

-- the greater of a value and one that was there
abbrev pub IsGreaterOf : {V : Type 0} → (V → V → Option Ordering) → V → V → V → Type 0
IsGreaterOf partial_cmp value v w = w ≡ (if partial_gt partial_cmp value v then value else v)
