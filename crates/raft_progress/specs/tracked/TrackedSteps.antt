-- What a step does to a membership and its progress, and its reply.
use Rattle.std.specs.Prelude.{◌≡◌, Bool, true, false, Some, None, List}
use Rattle.std.specs.declared.cmp.Ordering.{Ordering}
use Rattle.raft_members.specs.membership.Change.{changed}
use Rattle.raft_members.specs.membership.Members.{Members, HasMembers, members_of}
use Rattle.raft_members.specs.membership.Valid.{FirstWithoutNode, IsValid, has_empty_config}
use Rattle.raft_members.specs.declared.change_members.ChangeMembers.{ChangeMembers}
use Rattle.raft_progress.specs.progress.Comparisons.{Comparisons}
use Rattle.raft_progress.specs.progress.ProgressState.{IsSame, ProgressState}
use Rattle.raft_progress.specs.progress.Run.{Runs}
use Rattle.raft_progress.specs.progress.Steps.{IsAnsweredUpgrade, IsIncreased, IsWritten}
use Rattle.raft_progress.specs.tracked.TrackedState.{AreLearners, Configs, HasConfigs, TrackedState, has_quorum, is_voter}
use Rattle.raft_progress.specs.declared.progress.steps.Reply.{Reply}
use Rattle.raft_progress.specs.declared.progress.steps.Reply.TheVariants.{Granted, Refused, BelowDefault, OutOfMemory}
use Rattle.raft_progress.specs.declared.tracked.step.Step.{Step}
use Rattle.raft_progress.specs.declared.tracked.step.Step.TheVariants.{Update, IncreaseTo, Change}

module _ {K N V P : Type 0} where
  -- the same membership and the same progress
  pub record IsSameTracked (old new : TrackedState K N V P) : Type 0 where
    pub membership : new.membership ≡ old.membership
    pub progress : IsSame old.progress new.progress

module _ {K N V P : Type 0} (eq : K → K → Bool) (id_cmp : K → K → Ordering) (cmp : P → P → Ordering)
    (part : V → P) (IsClone : V → V → Type 0) where
  -- the progress switches to the configs and the learners of a membership, with this reply
  abbrev pub SwitchesTo : ProgressState K V P (Configs K) → Members K N → V → Reply K P
      → ProgressState K V P (Configs K) → Type 0
  SwitchesTo old m default reply new =
      (configs : Configs K) × (learners : List K) × HasConfigs m configs × AreLearners eq m learners
      × IsAnsweredUpgrade eq id_cmp cmp part IsClone (has_quorum eq)
      (is_voter eq) old configs learners default reply new

module _ {K N V P : Type 0} (eq : K → K → Bool) (id_cmp : K → K → Ordering) (same : N → N → Bool)
    (cmp : P → P → Ordering) (part : V → P) (IsClone : V → V → Type 0) where
  -- the reply to a switch to a membership: it is refused for an empty config, otherwise for the
  -- first voter without a node, otherwise for the least id whose inherited value is below the
  -- default, and otherwise both switch to it; or an allocation failed
  abbrev pub IsChangedTo : TrackedState K N V P → Members K N → V → Reply K P → TrackedState K N V P
      → Type 0
  IsChangedTo old next default (Granted p) new =
      IsValid eq next × HasMembers same id_cmp new.membership next
      × SwitchesTo eq id_cmp cmp part IsClone old.progress next default (Granted p) new.progress
  IsChangedTo old next default (BelowDefault id) new =
      IsValid eq next × (new.membership ≡ old.membership)
      × SwitchesTo eq id_cmp cmp part IsClone old.progress next default (BelowDefault id) new.progress
  IsChangedTo old next default (Refused None) new =
      (has_empty_config next.configs ≡ true) × IsSameTracked old new
  IsChangedTo old next default (Refused (Some id)) new =
      (has_empty_config next.configs ≡ false) × FirstWithoutNode eq id_cmp next (Some id)
      × IsSameTracked old new
  IsChangedTo old next default OutOfMemory new = IsSameTracked old new
  IsChangedTo old next default reply new = ⊥

  -- the reply to a change of the membership: both switch to what the change makes of it
  abbrev pub IsChanged : TrackedState K N V P → ChangeMembers K N → Bool → V → Reply K P
      → TrackedState K N V P → Type 0
  IsChanged old change retain default reply new =
      IsChangedTo old
      (changed eq id_cmp (members_of id_cmp old.membership) change retain) default reply new

module _ {K N V P : Type 0} (by : Comparisons K V P) (same : N → N → Bool) where
  -- From old, the step may have this reply and lead to new.
  abbrev pub IsTrackedStep : TrackedState K N V P → Step K N V → Reply K P → TrackedState K N V P
      → Type 0
  IsTrackedStep old (Update id value) reply new =
      (new.membership ≡ old.membership)
      × IsWritten by.eq by.cmp by.part (has_quorum by.eq) old.progress id value reply new.progress
  IsTrackedStep old (IncreaseTo id value) reply new =
      (new.membership ≡ old.membership)
      × IsIncreased by.eq by.cmp by.partial_cmp by.part
      (has_quorum by.eq) old.progress id value reply new.progress
  IsTrackedStep old (Change change retain default) reply new =
      IsChanged by.eq by.id_cmp same by.cmp by.part by.IsClone old change retain default reply new

  -- The steps may have these replies, one after another.
  abbrev pub IsTrackedRun : TrackedState K N V P → List (Step K N V) → List (Reply K P)
      → TrackedState K N V P → Type 0
  IsTrackedRun old steps replies new = Runs IsTrackedStep IsSameTracked old steps replies new
