-- Equality of progresses is an equivalence if equality of their ids, values, parts and quorum sets
-- is.
use Rattle.std.specs.Prelude.{Bool}
use Rattle.std.specs.Cmp.{IsEquivalence, IsPartialEquivalence, and_equiv, and_per, nat_eq_equiv, on_equiv, on_per, partial_equiv_from_equiv}
use Rattle.std.specs.Cmp.Lexicographic.{lists_equiv, lists_per}
use Rattle.raft_progress.specs.progress.Equal.{equal}
use Rattle.raft_progress.specs.progress.ProgressView.{ProgressView}

module _ {ID V P QS : Type 0} {id_eq : ID → ID → Bool} {value_eq : V → V → Bool}
    {part_eq : P → P → Bool} {set_eq : QS → QS → Bool} where
  pub equal-per : IsPartialEquivalence id_eq → IsPartialEquivalence value_eq
      → IsPartialEquivalence part_eq → IsPartialEquivalence set_eq
      → IsPartialEquivalence
      (equal {ID = ID} {V = V} {P = P} {QS = QS} id_eq value_eq part_eq set_eq)
  equal-per ids values parts sets =
      let number = partial_equiv_from_equiv nat_eq_equiv in
      and_per
      (and_per
      (and_per
      (and_per
      (and_per (on_per (λ (p : ProgressView ID V P QS). p.quorum_set) sets)
      (on_per (λ p. p.granted) parts))
      (on_per (λ p. p.voter_count) number))
      (on_per (λ p. p.entries)
      (lists_per (and_per (on_per (λ e. e.0) ids) (on_per (λ e. e.1) values)))))
      (on_per (λ p. p.default_part) parts))
      (on_per (λ p. p.stat)
      (and_per (and_per (on_per (λ t. t.update_count) number)
      (on_per (λ t. t.move_count) number)) (on_per (λ t. t.is_quorum_count) number)))

  pub equal-equiv : IsEquivalence id_eq → IsEquivalence value_eq → IsEquivalence part_eq
      → IsEquivalence set_eq
      → IsEquivalence (equal {ID = ID} {V = V} {P = P} {QS = QS} id_eq value_eq part_eq set_eq)
  equal-equiv ids values parts sets =
      and_equiv
      (and_equiv
      (and_equiv
      (and_equiv
      (and_equiv (on_equiv (λ (p : ProgressView ID V P QS). p.quorum_set) sets)
      (on_equiv (λ p. p.granted) parts))
      (on_equiv (λ p. p.voter_count) nat_eq_equiv))
      (on_equiv (λ p. p.entries)
      (lists_equiv (and_equiv (on_equiv (λ e. e.0) ids) (on_equiv (λ e. e.1) values)))))
      (on_equiv (λ p. p.default_part) parts))
      (on_equiv (λ p. p.stat)
      (and_equiv (and_equiv (on_equiv (λ t. t.update_count) nat_eq_equiv)
      (on_equiv (λ t. t.move_count) nat_eq_equiv))
      (on_equiv (λ t. t.is_quorum_count) nat_eq_equiv)))
