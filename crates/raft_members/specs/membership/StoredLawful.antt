-- Equality of stored memberships has the laws of equality.
use Rattle.std.specs.Prelude.{Bool}
use Rattle.std.specs.Cmp.{IsEquivalence, and_equiv, on_equiv}
use Rattle.std.specs.Cmp.Lexicographic.{options_equiv}
use Rattle.raft_base.specs.LogIdLawful.{same_id-equiv}
use Rattle.raft_members.specs.membership.MembersLawful.{same_members-equiv}
use Rattle.raft_members.specs.membership.Stored.{same_stored}

pub same_stored-equiv : {C K N : Type 0} {leader : C → C → Bool} {eq : K → K → Bool}
    {same : N → N → Bool} → IsEquivalence leader → IsEquivalence eq → IsEquivalence same
    → IsEquivalence (same_stored leader eq same)
same_stored-equiv l e s =
    and_equiv (on_equiv (λ m. m.log_id) (options_equiv (same_id-equiv l)))
    (on_equiv (λ m. m.membership) (same_members-equiv e s))
