-- Calls of a progress as steps of a run, and how runs compose.
use Rattle.std.specs.List.{list_any}
use Rattle.std.specs.Prelude.{◌≡◌, Bool, List, ◌++◌, None, Some, false}
use Rattle.std.proofs.Common.{Global, Vec}
use Rattle.raft_progress.specs.progress.Comparisons.{Comparisons}
use Rattle.raft_progress.specs.progress.CountedValue.{AtMost}
use Rattle.raft_progress.specs.progress.InOrder.{IsInOrder}
use Rattle.raft_progress.specs.progress.NewProgress.{LearnersFit}
use Rattle.raft_progress.specs.progress.Run.{Runs}
use Rattle.raft_progress.specs.progress.ProgressView.{ProgressView, state}
use Rattle.raft_progress.specs.progress.ViewSteps.{IsDone, IsViewRun, IsViewStep, is_upgrade}
use Rattle.raft_progress.specs.progress.Steps.{IsRun}
use Rattle.raft_progress.specs.progress.Updated.{IsNotLower, IsNotLowerIfGreater}
use Rattle.raft_progress.specs.progress.Upgrade.{CanUpgrade, IsUpgraded}
use Rattle.raft_progress.specs.declared.progress.steps.AnyStep.{AnyStep}
use Rattle.raft_progress.specs.declared.progress.steps.AnyStep.TheVariants.{IncreaseTo, Update, Upgrade}
use Rattle.raft_progress.specs.declared.progress.steps.Reply.{Reply}
use Rattle.raft_progress.specs.declared.progress.steps.Reply.TheVariants.{Granted, Unknown}

-- two runs compose to one if the second begins where the first ended
abbrev pub Compose : {S A R : Type 0} → (S → A → R → S → Type 0) → Type 0
Compose {S} {A} {R} Step =
    (old middle new : S) (steps more : List A) (replies others : List R)
    → Runs Step (λ a b. b ≡ a) old steps replies middle
    → Runs Step (λ a b. b ≡ a) middle more others new
    → Runs Step (λ a b. b ≡ a) old (steps ++ more) (replies ++ others) new

module _ (ID V P QS : Type 0) (by : Comparisons ID V P) (has_quorum : QS → (ID → Bool) → Bool)
    (is_voter : QS → ID → Bool) where
  -- runs of a progress compose
  abbrev pub RunsCompose : Type 0
  RunsCompose = Compose (IsViewStep {QS = QS} by has_quorum is_voter)

  -- over a run the values change as a run of the values says
  abbrev pub RunsAreRunsOfValues : Type 0
  RunsAreRunsOfValues =
      (old new : ProgressView ID V P QS) (steps : List (AnyStep ID V QS)) (replies : List (Reply ID P))
      → IsViewRun by has_quorum is_voter old steps replies new
      → IsRun by has_quorum is_voter (state by.eq old) steps replies (state by.eq new)

  -- over a run without an upgrade granted never falls
  abbrev pub RunsNeverFall : Type 0
  RunsNeverFall =
      (old new : ProgressView ID V P QS) (steps : List (AnyStep ID V QS)) (replies : List (Reply ID P))
      → IsViewRun by has_quorum is_voter old steps replies new → list_any is_upgrade steps ≡ false
      → AtMost by.cmp old.granted new.granted

  -- the step was made: the reply for a known id is what is granted, and for an unknown id it is
  -- `Unknown` with what is granted
  pub record IsMadeOf (id : ID) (step : AnyStep ID V QS) (old new : ProgressView ID V P QS) : Type 0 where
    pub known : (v : V) → (state by.eq old).value id ≡ Some v
        → IsViewStep by has_quorum is_voter old step (Granted new.granted) new
    pub unknown : (state by.eq old).value id ≡ None
        → IsViewStep by has_quorum is_voter old step (Unknown new.granted) new

  -- an update whose precondition held, and that was made, is a step
  abbrev pub UpdatesAreSteps : Type 0
  UpdatesAreSteps =
      (old new : ProgressView ID V P QS) (id : ID) (value : V)
      → IsInOrder by.eq by.cmp by.part has_quorum old
      → IsNotLower by.eq by.cmp by.part old id value
      → IsDone by has_quorum is_voter old (Update id value) new
      → IsInOrder by.eq by.cmp by.part has_quorum new → IsMadeOf id (Update id value) old new

  -- an increase that was made is a step
  abbrev pub IncreasesAreSteps : Type 0
  IncreasesAreSteps =
      (old new : ProgressView ID V P QS) (id : ID) (value : V)
      → IsInOrder by.eq by.cmp by.part has_quorum old
      → IsNotLowerIfGreater by.eq by.cmp by.part by.partial_cmp old id value
      → IsDone by has_quorum is_voter old (IncreaseTo id value) new
      → IsInOrder by.eq by.cmp by.part has_quorum new → IsMadeOf id (IncreaseTo id value) old new

  -- an upgrade that was made is a step, and its reply is what is granted
  abbrev pub UpgradesAreSteps : Type 0
  UpgradesAreSteps =
      (old new : ProgressView ID V P QS) (quorum_set : QS) (learners : Vec ID Global) (default : V)
      → LearnersFit by.eq (is_voter quorum_set) learners.items
      → CanUpgrade by.eq by.cmp by.part (is_voter quorum_set) learners.items default
      (state by.eq old).value
      → IsUpgraded by.eq by.IsClone by.part (is_voter quorum_set) quorum_set learners.items default
      (state by.eq old).value (state by.eq new)
      → IsDone by has_quorum is_voter old (Upgrade quorum_set learners default) new
      → IsInOrder by.eq by.cmp by.part has_quorum new
      → IsViewStep by has_quorum is_voter old (Upgrade quorum_set learners default)
      (Granted new.granted) new
