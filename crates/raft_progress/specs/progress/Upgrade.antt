-- Progresses with another quorum set that inherit the values of an old one.
use Rattle.std.specs.Prelude.{◌≡◌, Bool, true, false, ◌||◌, List, Option, Some, None}
use Rattle.std.specs.Set.{is_member}
use Rattle.std.specs.declared.cmp.Ordering.{Ordering}
use Rattle.std.specs.Ordering.{is_lt, is_le}
use Rattle.raft_progress.specs.progress.ProgressState.{ProgressState}
use Rattle.raft_progress.specs.progress.CountedValue.{AtMost}
use Rattle.raft_progress.specs.progress.NewProgress.{HasClone}

-- a clone of the value that the id had, or of the default if it had none
abbrev pub Inherits : {V : Type 0} → (V → V → Type 0) → V → Option V → Option V → Type 0
Inherits IsClone default None new = HasClone IsClone default new
Inherits IsClone default (Some v) new = HasClone IsClone v new

module _ {ID V P QS : Type 0} (eq : ID → ID → Bool) (IsClone : V → V → Type 0) (part : V → P)
    (is_voter : ID → Bool) where
  -- the new set's voters and the learners, each with a clone of its old value or of the default,
  -- and no other id with a value
  pub record IsUpgraded (quorum_set : QS) (learners : List ID) (default : V) (old : ID → Option V)
      (new : ProgressState ID V P QS) : Type 0 where
    pub same_quorum_set : new.quorum_set ≡ quorum_set
    pub voters : (x : ID) → new.is_voter x ≡ is_voter x
    pub value : (x : ID) → (is_voter x || is_member eq learners x) ≡ true
        → Inherits IsClone default (old x) (new.value x)
    pub others : (x : ID) → (is_voter x || is_member eq learners x) ≡ false → new.value x ≡ None
    pub default_part : new.default_part ≡ part default

module _ {ID V P : Type 0} (eq : ID → ID → Bool) (cmp : P → P → Ordering) (part : V → P)
    (is_voter : ID → Bool) where
  -- no inherited value is below the default
  abbrev pub CanUpgrade : List ID → V → (ID → Option V) → Type 0
  CanUpgrade learners default old =
      (x : ID) (v : V) → old x ≡ Some v → (is_voter x || is_member eq learners x) ≡ true
      → AtMost cmp (part default) (part v)

  -- an id whose inherited value is below the default
  pub record InheritsBelow (learners : List ID) (default : V) (old : ID → Option V) (x : ID)
      : Type 0 where
    pub inherited : (is_voter x || is_member eq learners x) ≡ true
    pub value : V
    pub present : old x ≡ Some value
    pub below : is_lt (cmp (part value) (part default)) ≡ true

module _ {ID V P : Type 0} (eq : ID → ID → Bool) (id_cmp : ID → ID → Ordering)
    (cmp : P → P → Ordering) (part : V → P) (is_voter : ID → Bool) where
  -- the least id whose inherited value is below the default
  pub record IsLeastBelow (learners : List ID) (default : V) (old : ID → Option V) (id : ID)
      : Type 0 where
    pub inherits_below : InheritsBelow eq cmp part is_voter learners default old id
    pub least : (x : ID) → InheritsBelow eq cmp part is_voter learners default old x
        → is_le (id_cmp id x) ≡ true
