-- Where the effective membership stays, none other is effective than before.
use Rattle.std.proofs.Common.{◌≡◌, ℕ, Bool, false, refl}
use Rattle.std.specs.declared.cmp.Ordering.{Ordering}
use Rattle.std.specs.Cmp.{IsEquivalence}
use Rattle.raft_base.specs.LogIndex.{index_le}
use Rattle.raft_members.specs.membership.MembersLawful.{same_members-equiv}
use Rattle.raft_members.specs.membership.Stored.{membership_of}
use Rattle.raft_members.specs.declared.membership.stored.StoredMembershipOf.{StoredMembershipOf}
use Rattle.raft_state.specs.membership_state.MembershipMoves.{after_update_committed, effect_changes, is_covered}
use Rattle.raft_state.specs.membership_state.Memberships.{Memberships, index_at}

module _ {C K N : Type 0} (cmp : C → C → Ordering) {eq : K → K → Bool} {same : N → N → Bool} (e : IsEquivalence eq)
    (s : IsEquivalence same) where
  pub effect_stays : (new : StoredMembershipOf C K N) (upto : ℕ) (m : Memberships C K N) → is_covered upto m ≡ false
      → index_le (index_at m.effective) (index_at new) ≡ false → false ≡ effect_changes eq same m (after_update_committed cmp new upto m)
  effect_stays new upto m covered replaced =
      let same_self = (same_members-equiv e s).refl (membership_of m.effective) in
      rw (covered, replaced, same_self) refl
