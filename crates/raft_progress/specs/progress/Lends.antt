-- What a progress becomes after what it lent has come back.
use Rattle.std.specs.Prelude.{◌≡◌, ◌↔◌, Bool, [], ◌∷◌, IsOk, IsSome, MatchResult, OnSome, Option, Result}
use Rattle.std.specs.Borrow.{Array, Bor, Fml, LendsSo, MutBor, RattleType, follows}
use Rattle.std.specs.Fn.{FnOnceReturnsAtMut, Once}
use Rattle.std.specs.Io.BufRead.{Rests}
use Rattle.std.specs.declared.cmp.Ordering.{Ordering}
use Rattle.std.specs.declared.cmp.Ord as order_ghosts
use Rattle.std.specs.declared.cmp.PartialEq as eq_ghosts
use Rattle.std.specs.declared.cmp.PartialOrd as partial_ghosts
use base.Fml.{GName}
use denote.Struct.Tuple.{Tuple}
use Rattle.raft_progress.specs.progress.InOrder.{IsInOrder}
use Rattle.raft_progress.specs.progress.Kept.{with_value}
use Rattle.raft_progress.specs.progress.ProgressView.{ProgressView, state}
use Rattle.raft_progress.specs.progress.Updated.{IsUpdated}
use Rattle.raft_progress.specs.progress.VecProgress.{with_entries}
use Rattle.raft_progress.specs.contracts.progress.vec_progress.VecProgress.{the_row}

-- what a closure may make of a value
abbrev pub Leaves : {F T : Type 0} → Once F (MutBor T × Unit {0}) (Unit {0} × (MutBor T × Unit {0}))
    → F → T → T → Type 0
Leaves call f v w = FnOnceReturnsAtMut call f v tt w

module _ {ID V P QS : Type 0} (eq : ID → ID → Bool) (cmp : P → P → Ordering) (part : V → P)
    (has_quorum : QS → (ID → Bool) → Bool) where
  -- After an update that has returned: the value became one that Left allows, the progress is in
  -- order, and the result is granted, as Ok for a known id and as an error for an unknown one.
  pub record IsAnsweredUpdate (Left : V → V → Type 0) (id : ID) (result : Result (Bor P) (Bor P))
      (old new : ProgressView ID V P QS) : Type 0 where
    pub updated : IsUpdated eq cmp part Left old id new
    pub ordered : IsInOrder eq cmp part has_quorum new
    pub granted : MatchResult result (λ ok. ok.now ≡ new.granted) (λ err. err.now ≡ new.granted)
    pub known : IsOk result ↔ IsSome ((state eq old).value id)

-- after granted has come back, what contracts see of p is related to what they saw before
abbrev pub LendsGranted : {ID V P QS : Type 0} (R : RattleType) → (R.Denot → ProgressView ID V P QS)
    → MutBor R.Denot → (ProgressView ID V P QS → ProgressView ID V P QS → Type 0) → Fml
LendsGranted R view_of p After = Rests R p (λ new. After (view_of p.now) (view_of new))

-- after the value of an id has come back as w, p has w at this id and nothing else has changed
abbrev pub LendsValue : {ID P QS : Type 0} (R V : RattleType) → (R.Denot → ProgressView ID V.Denot P QS)
    → (ID → ID → Bool) → MutBor R.Denot → ID → Option (MutBor V.Denot) → Fml
LendsValue R V view_of eq p id value =
    LendsSo R V p value (λ new w. OnSome value (view_of new ≡ with_value eq (view_of p.now) id w))
    (λ new. view_of new ≡ view_of p.now)

module _ (ID V P QS : RattleType) (o : order_ghosts.Ghosts ID.Denot) (e : eq_ghosts.Ghosts ID.Denot)
    (q : partial_ghosts.Ghosts ID.Denot) where
  -- after its entries have come back, p has other entries, as many as before, and nothing else has
  -- changed
  abbrev pub LendsEntries : MutBor (the_row ID V P QS o e q).Denot → GName → Fml
  LendsEntries p name =
      follows (the_row ID V P QS o e q) (Array (Tuple (ID ∷ V ∷ [])) 0) p.ghost_name name
      (with_entries p.now)
