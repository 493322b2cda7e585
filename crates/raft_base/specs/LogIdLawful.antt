-- The laws of comparisons of log ids, from the laws of comparisons of leaders. Proofs that chain
-- comparisons of log ids use them.
use Rattle.std.specs.Prelude.{Bool}
use Rattle.std.specs.Cmp.{IsEquivalence, IsTotalOrder, and_equiv, nat_cmp_total, nat_eq_equiv, on_equiv, on_total, then_total}
use Rattle.std.specs.Cmp.Lexicographic.{options_total}
use Rattle.std.specs.Option.{option_cmp}
use Rattle.std.specs.declared.cmp.Ordering.{Ordering}
use Rattle.raft_base.specs.LogId.{log_id_cmp, same_id}

-- equality of log ids has the laws of equality
pub same_id-equiv : {C : Type 0} {eq : C → C → Bool} → IsEquivalence eq → IsEquivalence (same_id eq)
same_id-equiv laws = and_equiv (on_equiv (λ a. a.leader_id) laws)
    (on_equiv (λ a. a.index) nat_eq_equiv)

module _ {C : Type 0} {cmp : C → C → Ordering} (total : IsTotalOrder cmp) where
  -- the order of log ids is total
  pub log_id_cmp-total : IsTotalOrder (log_id_cmp cmp)
  log_id_cmp-total = then_total (on_total (λ k. k.leader_id) total)
      (on_total (λ k. k.index) nat_cmp_total)

  -- the order stays total if absent log ids are below all others
  pub optional-log_id_cmp-total : IsTotalOrder (option_cmp (log_id_cmp cmp))
  optional-log_id_cmp-total = options_total log_id_cmp-total
