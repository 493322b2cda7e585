-- The entries of a progress: its ids with their values, the voters first. When the parts fall along
-- the entries, and how a voter moves up.
use Rattle.std.specs.Prelude.{◌≡◌, ℕ, Bool, true, List, [], ◌∷◌, ◌++◌, take, if◌then◌else◌, ⊤}
use Rattle.std.specs.declared.cmp.Ordering.{Ordering}
use Rattle.std.specs.Ordering.{is_le, is_lt}
use Rattle.std.specs.List.{AllByRecursion, list_any}
use Rattle.std.specs.Set.{is_member}
use Rattle.std.specs.Map.{keys_of, lookup}
use Rattle.raft_progress.specs.progress.ProgressState.{ProgressState}
use Rattle.raft_progress.specs.progress.CountedValue.{AtMost}

-- the progress with these entries, of which the first ones are the voters
abbrev pub state_of : {ID V P QS : Type 0} → (ID → ID → Bool) → QS → List (ID × V) → ℕ → P
    → ProgressState ID V P QS
state_of eq quorum_set entries voter_count default_part =
    record {
      quorum_set = quorum_set;
      is_voter = is_member eq (take voter_count (keys_of entries));
      value = λ x. lookup (eq x) entries;
      default_part = default_part;
    }

module _ {ID V P : Type 0} (cmp : P → P → Ordering) (part : V → P) where
  -- the entries whose part exceeds g come first, and their parts never rise: none comes after one
  -- with a lesser part
  abbrev pub IsFalling : P → List (ID × V) → Type 0
  IsFalling g [] = ⊤
  IsFalling g (e ∷ es) =
      AllByRecursion (λ f. is_lt (cmp g (part f.1)) ≡ true → AtMost cmp (part f.1) (part e.1)) es
      × IsFalling g es

  -- an entry, put directly after the last of the others whose part is at least its own, or at the
  -- beginning
  abbrev pub put_after_last : ID × V → List (ID × V) → List (ID × V)
  put_after_last e [] = e ∷ []
  put_after_last e (f ∷ fs) =
      if list_any (λ h. is_le (cmp (part e.1) (part h.1))) (f ∷ fs) then f ∷ put_after_last e fs
      else e ∷ f ∷ fs

  -- the entries, `before` and then the rest, after an id of the rest has moved up: its entry is
  -- put, by put_after_last, among all those before it
  abbrev pub entries_after_rise : (ID → Bool) → List (ID × V) → List (ID × V) → List (ID × V)
  entries_after_rise is_id before [] = before
  entries_after_rise is_id before (e ∷ es) =
      if is_id e.0 then put_after_last e before ++ es
      else entries_after_rise is_id (before ++ e ∷ []) es
