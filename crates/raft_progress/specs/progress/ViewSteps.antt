-- What a step does to all that contracts see of a progress: to its entries, to granted and to the
-- counts too.
use Rattle.std.specs.Prelude.{◌≡◌, Bool, true, false, List, Option}
use Rattle.std.specs.declared.cmp.Ordering.{Ordering}
use Rattle.raft_progress.specs.progress.Answered.{IsAnswered}
use Rattle.raft_progress.specs.progress.Comparisons.{Comparisons}
use Rattle.raft_progress.specs.progress.InOrder.{IsInOrder}
use Rattle.raft_progress.specs.progress.Run.{Runs}
use Rattle.raft_progress.specs.progress.ProgressView.{ProgressView, state}
use Rattle.raft_progress.specs.progress.Steps.{IsStep}
use Rattle.raft_progress.specs.progress.Updated.{IsGreaterOf, IsUpdated}
use Rattle.raft_progress.specs.progress.UpgradeFold.{IsUpgradeFold}
use Rattle.raft_progress.specs.declared.progress.steps.AnyStep.{AnyStep}
use Rattle.raft_progress.specs.declared.progress.steps.AnyStep.TheVariants.{Update, IncreaseTo, Upgrade}
use Rattle.raft_progress.specs.declared.progress.steps.Reply.{Reply}

module _ {ID V P QS : Type 0} (eq : ID → ID → Bool) (cmp : P → P → Ordering) (part : V → P) where
  -- the value of an id is updated to this one
  abbrev pub IsUpdatedTo : ProgressView ID V P QS → ID → V → ProgressView ID V P QS → Type 0
  IsUpdatedTo old id value new = IsUpdated eq cmp part (λ v w. w ≡ value) old id new

  -- the value of an id is updated to this one if this one is greater, and otherwise to itself
  abbrev pub IsIncreasedTo : (V → V → Option Ordering) → ProgressView ID V P QS → ID → V → ProgressView ID V P QS
      → Type 0
  IsIncreasedTo partial_cmp old id value new =
      IsUpdated eq cmp part (IsGreaterOf partial_cmp value) old id new

-- whether a step is an upgrade
abbrev pub is_upgrade : {ID V QS : Type 0} → AnyStep ID V QS → Bool
is_upgrade (Update id value) = false
is_upgrade (IncreaseTo id value) = false
is_upgrade (Upgrade quorum_set learners default) = true

module _ {ID V P QS : Type 0} (by : Comparisons ID V P) (has_quorum : QS → (ID → Bool) → Bool)
    (is_voter : QS → ID → Bool) where
  -- a step that is not refused is an update, an increase or an upgrade
  abbrev pub IsDone : ProgressView ID V P QS → AnyStep ID V QS → ProgressView ID V P QS → Type 0
  IsDone old (Update id value) new = IsUpdatedTo by.eq by.cmp by.part old id value new
  IsDone old (IncreaseTo id value) new =
      IsIncreasedTo by.eq by.cmp by.part by.partial_cmp old id value new
  IsDone old (Upgrade quorum_set learners default) new =
      IsUpgradeFold by.eq by.id_cmp by.cmp by.part by.IsClone has_quorum is_voter old quorum_set
      learners.items default new

  -- a step of a progress, over all that contracts see of it: its values change as a step says, it
  -- is done or changes nothing, the reply contains what is granted, and the progress is in order at
  -- the end
  pub record IsViewStep (old : ProgressView ID V P QS) (step : AnyStep ID V QS) (reply : Reply ID P)
      (new : ProgressView ID V P QS) : Type 0 where
    pub values : IsStep by has_quorum is_voter (state by.eq old) step reply (state by.eq new)
    pub answered : IsAnswered (λ p. p.granted) (IsDone old step) old reply new
    pub ordered : IsInOrder by.eq by.cmp by.part has_quorum new

  -- the steps may have these replies, one after another
  abbrev pub IsViewRun : ProgressView ID V P QS → List (AnyStep ID V QS) → List (Reply ID P)
      → ProgressView ID V P QS → Type 0
  IsViewRun old steps replies new = Runs IsViewStep (λ a b. b ≡ a) old steps replies new
