-- What the private steps of a replay do to all that contracts see of a progress.
use Rattle.std.specs.Prelude.{Bool, List, Option}
use Rattle.std.specs.declared.cmp.Ordering.{Ordering}
use Rattle.raft_members.specs.declared.change_members.ChangeMembers.{ChangeMembers}
use Rattle.raft_progress.specs.progress.Answered.{IsAnswered}
use Rattle.raft_progress.specs.progress.ProgressView.{ProgressView, state}
use Rattle.raft_progress.specs.progress.ViewSteps.{IsIncreasedTo, IsUpdatedTo}
use Rattle.raft_progress.specs.progress.Steps.{IsAnsweredUpgrade, IsIncreased, IsWritten}
use Rattle.raft_progress.specs.tracked.TrackedViewSteps.{IsChangeFold}
use Rattle.raft_progress.specs.tracked.TrackedState.{TrackedView, tracked_state}
use Rattle.raft_progress.specs.tracked.TrackedSteps.{IsChanged}
use Rattle.raft_progress.specs.progress.UpgradeFold.{IsUpgradeFold}
use Rattle.raft_progress.specs.declared.progress.steps.Reply.{Reply}

-- the reply to a step of a progress
abbrev pub Answered : {ID V P QS : Type 0} → (ProgressView ID V P QS → Type 0) → ProgressView ID V P QS
    → Reply ID P → ProgressView ID V P QS → Type 0
Answered Done old reply new = IsAnswered (λ p. p.granted) Done old reply new

module _ {ID V P QS : Type 0} (eq : ID → ID → Bool) (cmp : P → P → Ordering) (part : V → P)
    (has_quorum : QS → (ID → Bool) → Bool) where
  -- the value of an id is written, or the write is refused
  pub record IsViewWrite (old : ProgressView ID V P QS) (id : ID) (value : V) (reply : Reply ID P)
      (new : ProgressView ID V P QS) : Type 0 where
    pub values : IsWritten eq cmp part has_quorum (state eq old) id value reply (state eq new)
    pub answered : Answered (IsUpdatedTo eq cmp part old id value) old reply new

module _ {ID V P QS : Type 0} (eq : ID → ID → Bool) (cmp : P → P → Ordering)
    (partial_cmp : V → V → Option Ordering) (part : V → P)
    (has_quorum : QS → (ID → Bool) → Bool) where
  -- the value of an id goes up, or the write is refused
  pub record IsViewIncrease (old : ProgressView ID V P QS) (id : ID) (value : V) (reply : Reply ID P)
      (new : ProgressView ID V P QS) : Type 0 where
    pub values : IsIncreased eq cmp partial_cmp part has_quorum (state eq old) id value reply
        (state eq new)
    pub answered : Answered (IsIncreasedTo eq cmp part partial_cmp old id value) old reply new

module _ {ID V P QS : Type 0} (eq : ID → ID → Bool) (id_cmp : ID → ID → Ordering)
    (cmp : P → P → Ordering) (part : V → P) (IsClone : V → V → Type 0)
    (has_quorum : QS → (ID → Bool) → Bool) (is_voter : QS → ID → Bool) where
  -- the progress switches to another quorum set, or refuses to
  pub record IsViewUpgrade (old : ProgressView ID V P QS) (quorum_set : QS) (learners : List ID)
      (default : V) (reply : Reply ID P) (new : ProgressView ID V P QS) : Type 0 where
    pub values : IsAnsweredUpgrade eq id_cmp cmp part IsClone has_quorum is_voter (state eq old)
        quorum_set learners default reply (state eq new)
    pub answered : Answered (IsUpgradeFold eq id_cmp cmp part IsClone has_quorum is_voter old
        quorum_set learners default) old reply new

module _ {K N V P : Type 0} (eq : K → K → Bool) (id_cmp : K → K → Ordering) (same : N → N → Bool)
    (cmp : P → P → Ordering) (part : V → P) (IsClone : V → V → Type 0) where
  -- the membership is changed, and the progress with it, or the change is refused
  pub record IsViewChange (old : TrackedView K N V P) (change : ChangeMembers K N) (retain : Bool)
      (default : V) (reply : Reply K P) (new : TrackedView K N V P) : Type 0 where
    pub values : IsChanged eq id_cmp same cmp part IsClone (tracked_state eq old) change retain
        default reply (tracked_state eq new)
    pub answered : IsAnswered (λ t. t.progress.granted)
        (IsChangeFold eq id_cmp cmp part IsClone old default) old reply new
