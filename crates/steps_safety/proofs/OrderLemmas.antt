-- Log ids are in order.
use Rattle.std.specs.Prelude.{◌≡◌, true, false, Option, Some, None}
use Rattle.std.specs.Cmp.{IsTotalOrder}
use Rattle.std.specs.Option.{option_cmp}
use Rattle.std.specs.Ordering.{is_le, is_lt, nat_cmp, ordering_reverse, ordering_then}
use Rattle.std.specs.declared.cmp.Ordering.{Ordering}
use Rattle.std.specs.declared.cmp.Ordering.TheVariants.{Less, Equal, Greater}
use Rattle.std.proofs.Common.{refl, sym, ap, ◌∙◌, arith, true≢false}
use Rattle.std.proofs.lemmas.Bool.{false≢true}
use Rattle.std.proofs.lemmas.Bool.Decides.{nat_tests}
use Rattle.raft_base.specs.LogId.{id_le, id_lt, log_id_cmp}
use Rattle.raft_base.specs.LogIdLawful.{optional-log_id_cmp-total}
use Rattle.raft_base.specs.declared.log_id.LogIdOf.{LogIdOf}
use Rattle.raft_progress.proofs.lemmas.OrderLemmas.{AtMost-refl, AtMost-trans, lt_le, not_lt-from_AtMost}
use Rattle.steps_safety.proofs.GreatestLemmas.{IsOrder}
use Rattle.steps_safety.proofs.RestoredLemmas.{AreOrdered}

module _ {C : Type 0} {cmp : C → C → Ordering} (total : IsTotalOrder cmp) where
  -- log ids are not in a circle
  pub no_cycle : (a b c : Option (LogIdOf C)) → id_lt cmp a b ≡ true → id_le cmp b c ≡ true → id_le cmp c a ≡ true → ⊥
  no_cycle a b c lt le back =
      true≢false (sym (lt_le (optional-log_id_cmp-total total) a b c lt le)
      ∙ not_lt-from_AtMost (optional-log_id_cmp-total total) c a back)

  pub are_ordered : AreOrdered cmp
  are_ordered = record {
    itself = λ a lt. no_cycle a a a lt (AtMost-refl (optional-log_id_cmp-total total) a) (AtMost-refl (optional-log_id_cmp-total total) a);
    both = λ a b lt le. no_cycle a b b lt (AtMost-refl (optional-log_id_cmp-total total) b) le;
  }

  turned : (a b : Option (LogIdOf C))
      → option_cmp (log_id_cmp cmp) b a ≡ ordering_reverse (option_cmp (log_id_cmp cmp) a b)
  turned a b = (optional-log_id_cmp-total total).antisymm b a

  pub not_at_most : (a b : Option (LogIdOf C)) → id_le cmp a b ≡ false → id_lt cmp b a ≡ true
  not_at_most a b h = by (option_cmp (log_id_cmp cmp) a b) h (turned a b)
    where
      by : (o : Ordering) → is_le o ≡ false → option_cmp (log_id_cmp cmp) b a ≡ ordering_reverse o → id_lt cmp b a ≡ true
      by Less h e = absurd (true≢false h)
      by Equal h e = absurd (true≢false h)
      by Greater h e = ap is_lt e

  module _ (one : (x y : C) → cmp x y ≡ Equal → x ≡ y) where
    equal_parts : (x y : LogIdOf C) (o p : Ordering) → cmp x.leader_id y.leader_id ≡ o → nat_cmp x.index y.index ≡ p
        → ordering_then o p ≡ Equal → x ≡ y
    equal_parts x y Less p e f h = cc
    equal_parts x y Greater p e f h = cc
    equal_parts x y Equal Less e f h = cc
    equal_parts x y Equal Greater e f h = cc
    equal_parts x y Equal Equal e f h =
        let a : x.leader_id ≡ y.leader_id = one x.leader_id y.leader_id e in
        let b : x.index ≡ y.index = grind (arith, nat_tests) in
        λ i. record { leader_id = a i; index = b i }

    equal_ids : (a b : Option (LogIdOf C)) → option_cmp (log_id_cmp cmp) a b ≡ Equal → a ≡ b
    equal_ids None None h = refl
    equal_ids None (Some y) h = cc
    equal_ids (Some x) None h = cc
    equal_ids (Some x) (Some y) h =
        ap (λ (z : LogIdOf C). Some z) (equal_parts x y (cmp x.leader_id y.leader_id) (nat_cmp x.index y.index) refl refl h)

    pub is_order : IsOrder (id_le cmp)
    is_order = record {
      itself = AtMost-refl (optional-log_id_cmp-total total);
      total = λ a b h. (let lt = not_at_most a b h in weaken (option_cmp (log_id_cmp cmp) b a) lt);
      trans = AtMost-trans (optional-log_id_cmp-total total);
      same = λ a b h k. equal_ids a b (by (option_cmp (log_id_cmp cmp) a b) h (ap is_le (sym (turned a b)) ∙ k));
      least = λ x h. none_least x h;
    }
      where
        weaken : (o : Ordering) → is_lt o ≡ true → is_le o ≡ true
        weaken Less h = refl
        weaken Equal h = absurd (false≢true h)
        weaken Greater h = absurd (false≢true h)

        by : (o : Ordering) → is_le o ≡ true → is_le (ordering_reverse o) ≡ true → o ≡ Equal
        by Less h k = absurd (false≢true k)
        by Equal h k = refl
        by Greater h k = absurd (false≢true h)

        none_least : (x : LogIdOf C) → id_le cmp (Some x) None ≡ true → ⊥
        none_least x h = false≢true h
