-- How a progress switches to another quorum set: it begins anew, and inherits the old values one
-- after another.
use Rattle.std.specs.Prelude.{◌≡◌, Bool, List, [], ◌∷◌}
use Rattle.std.specs.declared.cmp.Ordering.{Ordering}
use Rattle.raft_progress.specs.progress.InOrder.{IsInOrder}
use Rattle.raft_progress.specs.progress.NewProgress.{AreFirstEntries, IsNew}
use Rattle.raft_progress.specs.progress.ProgressView.{ProgressView, state}
use Rattle.raft_progress.specs.progress.Updated.{IsUpdated}
use Rattle.raft_progress.specs.declared.progress.stat.Stat.{Stat}

module _ {ID V P QS : Type 0} (eq : ID → ID → Bool) (id_cmp : ID → ID → Ordering)
    (cmp : P → P → Ordering) (part : V → P) (IsClone : V → V → Type 0)
    (is_voter : QS → ID → Bool) where
  -- a new progress that continues the counts of another: voters and learners have the default, and
  -- its part is granted
  pub record BeginsAnew (stat : Stat) (quorum_set : QS) (learners : List ID) (default : V)
      (first : ProgressView ID V P QS) : Type 0 where
    pub values : IsNew eq IsClone part (is_voter quorum_set) quorum_set learners default
        (state eq first)
    pub entries : AreFirstEntries id_cmp learners first
    pub granted : first.granted ≡ part default
    pub counts : first.stat ≡ stat

module _ {ID V P QS : Type 0} (eq : ID → ID → Bool) (id_cmp : ID → ID → Ordering)
    (cmp : P → P → Ordering) (part : V → P) (IsClone : V → V → Type 0)
    (has_quorum : QS → (ID → Bool) → Bool) (is_voter : QS → ID → Bool) where
  -- the entries are inherited one after another: each by an update of its id, which makes its value
  -- a clone of the entry's value, and which ends in order
  abbrev pub TakesOverEach : List (ID × V) → ProgressView ID V P QS → ProgressView ID V P QS → Type 0
  TakesOverEach [] old new = new ≡ old
  TakesOverEach (e ∷ es) old new =
      (middle : ProgressView ID V P QS) × IsUpdated eq cmp part (λ v w. IsClone e.1 w) old e.0 middle
      × IsInOrder eq cmp part has_quorum middle × TakesOverEach es middle new

  -- a progress that begins anew, after the entries have been inherited
  pub record IsFold (entries : List (ID × V)) (stat : Stat) (quorum_set : QS) (learners : List ID)
      (default : V) (new : ProgressView ID V P QS) : Type 0 where
    pub first : ProgressView ID V P QS
    pub begins : BeginsAnew eq id_cmp cmp part IsClone is_voter stat quorum_set learners default
        first
    pub takes_over : TakesOverEach entries first new

  -- an upgrade begins anew with the new quorum set and the old counts, and inherits the old entries
  abbrev pub IsUpgradeFold : ProgressView ID V P QS → QS → List ID → V → ProgressView ID V P QS → Type 0
  IsUpgradeFold old quorum_set learners default new =
      IsFold old.entries old.stat quorum_set learners default new
