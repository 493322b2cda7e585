-- Equality of memberships has the laws of equality.
use Rattle.std.specs.Prelude.{Bool}
use Rattle.std.specs.Cmp.{IsEquivalence, and_equiv, on_equiv}
use Rattle.std.specs.Cmp.Lexicographic.{lists_equiv}
use Rattle.raft_members.specs.membership.Members.{same_nodes, same_members}

module _ {K N : Type 0} {eq : K → K → Bool} {same : N → N → Bool} (e : IsEquivalence eq)
    (s : IsEquivalence same) where
  pub same_nodes-equiv : IsEquivalence (same_nodes eq same)
  same_nodes-equiv = lists_equiv (and_equiv (on_equiv (λ p. p.0) e) (on_equiv (λ p. p.1) s))

  pub same_members-equiv : IsEquivalence (same_members eq same)
  same_members-equiv =
      and_equiv (on_equiv (λ m. m.configs) (lists_equiv (lists_equiv e)))
      (on_equiv (λ m. m.nodes) same_nodes-equiv)
