-- What an entry that is appended alone makes of the memberships.
use Rattle.std.specs.Prelude.{◌≡◌, Bool, false, true, not, [], ◌∷◌, Option, Some, None, Result, Ok, Err, IfOk, OnOk, refl}
use Rattle.std.specs.Result.{is_err}
use Rattle.raft_base.specs.declared.log_id.LogIdOf.{LogIdOf}
use Rattle.raft_members.specs.membership.Members.{MemberList}
use Rattle.raft_state.specs.raft_state.Appended.{AppendsMemberships}
use Rattle.raft_state.specs.membership_state.Memberships.{Memberships}
use Rattle.steps_handlers.specs.Proposals.{AppendsPayload}

-- what holds on Ok holds of what is no Err
pub not_err : {A B : Type 0} (P : Type 0) (r : Result A B) → is_err r ≡ false → OnOk r P → P
not_err P (Ok x) h m = m
not_err P (Err x) h m = cc

-- what follows on Ok
pub on_ok : {A B : Type 0} (P Q : Type 0) (r : Result A B) → (P → Q) → OnOk r P → OnOk r Q
on_ok P Q (Ok x) f h = f h
on_ok P Q (Err x) f h = tt

-- what follows from a fact of the value on Ok
pub ok_gives : {A B : Type 0} (P : A → Type 0) (Q : Type 0) (r : Result A B) → ((x : A) → P x → Q) → IfOk r P → OnOk r Q
ok_gives P Q (Ok x) f h = f x h
ok_gives P Q (Err x) f h = tt

-- what is not false is true
pub must_be : (b : Bool) → not b ≡ false → b ≡ true
must_be true h = refl
must_be false h = cc

-- what is not true is false
pub must_not_be : (b : Bool) → not b ≡ true → b ≡ false
must_not_be true h = cc
must_not_be false h = refl

module _ {K N C E : Type 0} (eq : K → K → Bool) (same : N → N → Bool) where
  by_membership : (e : E) (id : LogIdOf C) (o : Option (MemberList K N)) (old new : Memberships C K N)
      → AppendsMemberships eq same (λ (x : E). id) (λ x. o) (e ∷ []) old new → AppendsPayload eq same id o old new
  by_membership e id None old new h = h
  by_membership e id (Some m) old new h = (h.0, h.1, h.2)

  -- the membership of the entry is effective, if it stores one
  pub appends_payload : (id_of : E → LogIdOf C) (membership : E → Option (MemberList K N)) (e : E) (old new : Memberships C K N)
      → AppendsMemberships eq same id_of membership (e ∷ []) old new → AppendsPayload eq same (id_of e) (membership e) old new
  appends_payload id_of membership e old new h = by_membership e (id_of e) (membership e) old new h
