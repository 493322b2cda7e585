-- What a step does to a progress, and its reply.
use Rattle.std.specs.Prelude.{◌≡◌, Bool, true, false, Option, Some, None, List, not, MatchBool}
use Rattle.std.specs.Ordering.{is_lt, partial_gt}
use Rattle.std.specs.declared.cmp.Ordering.{Ordering}
use Rattle.raft_progress.specs.progress.Comparisons.{Comparisons}
use Rattle.raft_progress.specs.progress.CountedValue.{IsCounted}
use Rattle.raft_progress.specs.progress.NewProgress.{LearnersFit}
use Rattle.raft_progress.specs.progress.Run.{Runs}
use Rattle.raft_progress.specs.progress.ProgressState.{IsSame, ProgressState, Writes}
use Rattle.raft_progress.specs.progress.Upgrade.{CanUpgrade, IsLeastBelow, IsUpgraded}
use Rattle.raft_progress.specs.declared.progress.steps.AnyStep.{AnyStep}
use Rattle.raft_progress.specs.declared.progress.steps.AnyStep.TheVariants.{Update, IncreaseTo, Upgrade}
use Rattle.raft_progress.specs.declared.progress.steps.Reply.{Reply}
use Rattle.raft_progress.specs.declared.progress.steps.Reply.TheVariants.{Granted, Unknown, WouldFall, BelowDefault, BadLearners, OutOfMemory}

-- whether a value's part is below the part of the present value
abbrev pub falls : {V P : Type 0} → (P → P → Ordering) → (V → P) → Option V → V → Bool
falls cmp part None value = false
falls cmp part (Some current) value = is_lt (cmp (part value) (part current))

-- whether there is a value that the new one is not greater than
abbrev pub stays : {V : Type 0} → (V → V → Option Ordering) → Option V → V → Bool
stays partial_cmp None value = false
stays partial_cmp (Some current) value = not (partial_gt partial_cmp value current)

module _ {ID V P QS : Type 0} (eq : ID → ID → Bool) (cmp : P → P → Ordering) (part : V → P)
    (has_quorum : QS → (ID → Bool) → Bool) where
  -- the value of an id is written, unless the id is unknown or its part would fall
  abbrev pub IsWritten : ProgressState ID V P QS → ID → V → Reply ID P → ProgressState ID V P QS
      → Type 0
  IsWritten old id value (Granted p) new =
      (current : V) × (old.value id ≡ Some current) × (falls cmp part (Some current) value ≡ false)
      × Writes eq old id value new × IsCounted cmp part has_quorum new p
  IsWritten old id value (Unknown p) new =
      (old.value id ≡ None) × IsCounted cmp part has_quorum old p × IsSame old new
  IsWritten old id value WouldFall new =
      (current : V) × (old.value id ≡ Some current) × (falls cmp part (Some current) value ≡ true)
      × IsSame old new
  IsWritten old id value reply new = ⊥

module _ {ID V P QS : Type 0} (eq : ID → ID → Bool) (cmp : P → P → Ordering)
    (partial_cmp : V → V → Option Ordering) (part : V → P)
    (has_quorum : QS → (ID → Bool) → Bool) where
  -- a value that is not greater changes nothing, and any other is written
  abbrev pub IsIncreased : ProgressState ID V P QS → ID → V → Reply ID P → ProgressState ID V P QS
      → Type 0
  IsIncreased old id value reply new =
      MatchBool (stays partial_cmp (old.value id) value)
      ((p : P) × (reply ≡ Granted p) × IsCounted cmp part has_quorum old p × IsSame old new)
      (IsWritten eq cmp part has_quorum old id value reply new)

module _ {ID V P QS : Type 0} (eq : ID → ID → Bool) (id_cmp : ID → ID → Ordering)
    (cmp : P → P → Ordering) (part : V → P) (IsClone : V → V → Type 0)
    (has_quorum : QS → (ID → Bool) → Bool) (is_voter : QS → ID → Bool) where
  -- the progress switches to another quorum set, learners and default, unless the learners do not
  -- fit or an inherited value is below the default; or an allocation failed
  abbrev pub IsAnsweredUpgrade : ProgressState ID V P QS → QS → List ID → V → Reply ID P
      → ProgressState ID V P QS → Type 0
  IsAnsweredUpgrade old quorum_set learners default (Granted p) new =
      LearnersFit eq (is_voter quorum_set) learners
      × CanUpgrade eq cmp part (is_voter quorum_set) learners default old.value
      × IsUpgraded eq IsClone part (is_voter quorum_set) quorum_set learners default old.value new
      × IsCounted cmp part has_quorum new p
  IsAnsweredUpgrade old quorum_set learners default BadLearners new =
      (LearnersFit eq (is_voter quorum_set) learners → ⊥) × IsSame old new
  IsAnsweredUpgrade old quorum_set learners default (BelowDefault id) new =
      LearnersFit eq (is_voter quorum_set) learners
      × IsLeastBelow eq id_cmp cmp part (is_voter quorum_set) learners default old.value id
      × IsSame old new
  IsAnsweredUpgrade old quorum_set learners default OutOfMemory new = IsSame old new
  IsAnsweredUpgrade old quorum_set learners default reply new = ⊥

module _ {ID V P QS : Type 0} (by : Comparisons ID V P) (has_quorum : QS → (ID → Bool) → Bool)
    (is_voter : QS → ID → Bool) where
  -- From old, the step may have this reply and lead to new. No granted value is stored: it is
  -- recomputed if a reply needs it.
  abbrev pub IsStep : ProgressState ID V P QS → AnyStep ID V QS → Reply ID P
      → ProgressState ID V P QS → Type 0
  IsStep old (Update id value) reply new =
      IsWritten by.eq by.cmp by.part has_quorum old id value reply new
  IsStep old (IncreaseTo id value) reply new =
      IsIncreased by.eq by.cmp by.partial_cmp by.part has_quorum old id value reply new
  IsStep old (Upgrade quorum_set learners default) reply new =
      IsAnsweredUpgrade by.eq by.id_cmp by.cmp by.part by.IsClone has_quorum is_voter old quorum_set
      learners.items default reply new

  -- The steps may have these replies, one after another.
  abbrev pub IsRun : ProgressState ID V P QS → List (AnyStep ID V QS) → List (Reply ID P)
      → ProgressState ID V P QS → Type 0
  IsRun old steps replies new = Runs IsStep IsSame old steps replies new
