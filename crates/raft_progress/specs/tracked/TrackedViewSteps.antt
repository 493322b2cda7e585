-- What a step does to all that contracts see of a tracked progress.
use Rattle.std.specs.Prelude.{◌≡◌, Bool, true, false, List}
use Rattle.std.specs.declared.cmp.Ordering.{Ordering}
use Rattle.raft_members.specs.membership.Learners.{learners_of}
use Rattle.raft_members.specs.membership.Members.{members_of}
use Rattle.raft_progress.specs.progress.Answered.{IsAnswered}
use Rattle.raft_progress.specs.progress.Comparisons.{Comparisons}
use Rattle.raft_progress.specs.progress.Run.{Runs}
use Rattle.raft_progress.specs.progress.ViewSteps.{IsIncreasedTo, IsUpdatedTo}
use Rattle.raft_progress.specs.tracked.TrackedState.{Configs, HasConfigs, IsReady, TrackedView, has_quorum, is_voter, tracked_state}
use Rattle.raft_progress.specs.tracked.TrackedSteps.{IsTrackedStep}
use Rattle.raft_progress.specs.progress.UpgradeFold.{IsUpgradeFold}
use Rattle.raft_progress.specs.declared.progress.steps.Reply.{Reply}
use Rattle.raft_progress.specs.declared.tracked.step.Step.{Step}
use Rattle.raft_progress.specs.declared.tracked.step.Step.TheVariants.{Update, IncreaseTo, Change}

module _ {K N V P : Type 0} (eq : K → K → Bool) (id_cmp : K → K → Ordering) (cmp : P → P → Ordering)
    (part : V → P) (IsClone : V → V → Type 0) where
  -- the progress switches to the configs and the learners of the present membership, in the
  -- membership's order
  pub record IsChangeFold (old : TrackedView K N V P) (default : V) (new : TrackedView K N V P)
      : Type 0 where
    pub configs : Configs K
    pub has_configs : HasConfigs (members_of id_cmp new.membership) configs
    pub fold : IsUpgradeFold eq id_cmp cmp part IsClone (has_quorum eq)
        (is_voter eq) old.progress configs (learners_of eq new.membership) default new.progress

-- whether a step is a change of the membership
abbrev pub is_change : {K N V : Type 0} → Step K N V → Bool
is_change (Update id value) = false
is_change (IncreaseTo id value) = false
is_change (Change change retain default) = true

module _ {K N V P : Type 0} (by : Comparisons K V P) where
  -- a step that is not refused is an update or an increase of the progress, which leaves
  -- the membership, or a change of both
  abbrev pub IsTrackedDone : TrackedView K N V P → Step K N V → TrackedView K N V P → Type 0
  IsTrackedDone old (Update id value) new =
      (new.membership ≡ old.membership)
      × IsUpdatedTo by.eq by.cmp by.part old.progress id value new.progress
  IsTrackedDone old (IncreaseTo id value) new =
      (new.membership ≡ old.membership)
      × IsIncreasedTo by.eq by.cmp by.part by.partial_cmp old.progress id value new.progress
  IsTrackedDone old (Change change retain default) new =
      IsChangeFold by.eq by.id_cmp by.cmp by.part by.IsClone old default new

module _ {K N V P : Type 0} (by : Comparisons K V P) (same : N → N → Bool) where
  -- a step of a membership and its progress, over all that contracts see of them; both are ready at
  -- the end
  pub record IsTrackedViewStep (old : TrackedView K N V P) (step : Step K N V) (reply : Reply K P)
      (new : TrackedView K N V P) : Type 0 where
    pub values : IsTrackedStep by same (tracked_state by.eq old) step reply
        (tracked_state by.eq new)
    pub answered : IsAnswered (λ t. t.progress.granted) (IsTrackedDone by old step) old reply new
    pub ready : IsReady by.eq by.id_cmp by.cmp by.part new

  -- the steps may have these replies, one after another
  abbrev pub IsTrackedViewRun : TrackedView K N V P → List (Step K N V) → List (Reply K P)
      → TrackedView K N V P → Type 0
  IsTrackedViewRun old steps replies new =
      Runs IsTrackedViewStep (λ a b. b ≡ a) old steps replies new
