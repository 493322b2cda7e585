-- Equality of pairs of memberships has the laws of equality.
use Rattle.std.specs.Prelude.{Bool}
use Rattle.std.specs.Cmp.{IsEquivalence, and_equiv, on_equiv}
use Rattle.raft_members.specs.membership.StoredLawful.{same_stored-equiv}
use Rattle.raft_state.specs.membership_state.Memberships.{same_memberships}

pub same_memberships-equiv : {C K N : Type 0} {leader : C → C → Bool} {eq : K → K → Bool}
    {same : N → N → Bool} → IsEquivalence leader → IsEquivalence eq → IsEquivalence same
    → IsEquivalence (same_memberships leader eq same)
same_memberships-equiv l e s =
    and_equiv (on_equiv (λ m. m.committed) (same_stored-equiv l e s))
    (on_equiv (λ m. m.effective) (same_stored-equiv l e s))
