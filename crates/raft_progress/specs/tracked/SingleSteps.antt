-- What a single step does to a membership and its progress: an update, and a switch to a given
-- membership.
use Rattle.std.specs.Prelude.{◌≡◌, Bool}
use Rattle.std.specs.declared.cmp.Ordering.{Ordering}
use Rattle.raft_members.specs.membership.Members.{MemberList, members_of}
use Rattle.raft_progress.specs.progress.Answered.{IsAnswered}
use Rattle.raft_progress.specs.progress.ViewSteps.{IsUpdatedTo}
use Rattle.raft_progress.specs.progress.Steps.{IsWritten}
use Rattle.raft_progress.specs.tracked.TrackedViewSteps.{IsChangeFold}
use Rattle.raft_progress.specs.tracked.TrackedState.{TrackedView, TrackedState, has_quorum, tracked_state}
use Rattle.raft_progress.specs.tracked.TrackedSteps.{SwitchesTo, IsSameTracked}
use Rattle.raft_progress.specs.declared.progress.steps.Reply.{Reply}
use Rattle.raft_progress.specs.declared.progress.steps.Reply.TheVariants.{Granted, BelowDefault, OutOfMemory}

module _ {K N V P : Type 0} (eq : K → K → Bool) (cmp : P → P → Ordering) (part : V → P) where
  -- the value of an id is written, or the write is refused, and the membership stays, as a replay
  -- does at `Update`
  pub record IsTrackedUpdate (old : TrackedView K N V P) (id : K) (value : V) (reply : Reply K P)
      (new : TrackedView K N V P) : Type 0 where
    pub membership : new.membership ≡ old.membership
    pub values : IsWritten eq cmp part (has_quorum eq) (tracked_state eq old).progress id value
        reply (tracked_state eq new).progress
    pub answered : IsAnswered (λ t. t.progress.granted)
        (λ t. IsUpdatedTo eq cmp part old.progress id value t.progress) old reply new

module _ {K N V P : Type 0} (eq : K → K → Bool) (id_cmp : K → K → Ordering) (cmp : P → P → Ordering)
    (part : V → P) (IsClone : V → V → Type 0) where
  -- both switch to a membership, unless an inherited value is below the default; or an allocation
  -- failed
  abbrev pub BothSwitchTo : TrackedState K N V P → MemberList K N → V → Reply K P
      → TrackedState K N V P → Type 0
  BothSwitchTo old next default (Granted p) new =
      (new.membership ≡ next) × SwitchesTo eq id_cmp cmp part IsClone old.progress
      (members_of id_cmp next) default (Granted p) new.progress
  BothSwitchTo old next default (BelowDefault id) new =
      (new.membership ≡ old.membership) × SwitchesTo eq id_cmp cmp part IsClone old.progress
      (members_of id_cmp next) default (BelowDefault id) new.progress
  BothSwitchTo old next default OutOfMemory new = IsSameTracked old new
  BothSwitchTo old next default reply new = ⊥

  -- both switch to a membership, over all that contracts see of them
  pub record IsTrackedChangeTo (old : TrackedView K N V P) (next : MemberList K N) (default : V)
      (reply : Reply K P) (new : TrackedView K N V P) : Type 0 where
    pub values : BothSwitchTo (tracked_state eq old) next default reply (tracked_state eq new)
    pub answered : IsAnswered (λ t. t.progress.granted)
        (IsChangeFold eq id_cmp cmp part IsClone old default) old reply new
