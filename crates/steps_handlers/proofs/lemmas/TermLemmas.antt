-- A vote of a later term is greater.
use Rattle.std.specs.Prelude.{◌≡◌, ◌≢◌, ℕ, ◌<◌, true, Option, Some, refl}
use Rattle.std.specs.Ordering.{nat_cmp, partial_ge}
use Rattle.std.specs.declared.cmp.Ordering.{Ordering}
use Rattle.std.specs.declared.cmp.Ordering.TheVariants.{Greater}
use Rattle.std.proofs.Common.{ap, arith, ◌∙◌}
use Rattle.std.proofs.lemmas.Bool.Decides.{nat_tests}
use Rattle.raft_base.specs.Vote.{by_leader_then_committed, vote_cmp}
use Rattle.raft_base.specs.declared.vote.VoteIn.{VoteIn}

greater : (a b : ℕ) → b < a → nat_cmp a b ≡ Greater
greater a b h = grind (arith, nat_tests)

module _ {L : Type 0} (order : L → L → Option Ordering) (term_of : L → ℕ) where
  -- by the terms of their leaders
  pub later_term : (a b : VoteIn L)
      → (term_of a.leader_id ≢ term_of b.leader_id
      → order a.leader_id b.leader_id ≡ Some (nat_cmp (term_of a.leader_id) (term_of b.leader_id)))
      → term_of b.leader_id < term_of a.leader_id → vote_cmp order a b ≡ Some Greater
  later_term a b by_term h =
      let apart : term_of a.leader_id ≢ term_of b.leader_id = omega arith in
      ap (λ o. by_leader_then_committed o a.committed b.committed)
      (by_term apart ∙ ap Some (greater (term_of a.leader_id) (term_of b.leader_id) h))

  -- a greater vote is at least the other one
  pub at_least : (a b : VoteIn L) → vote_cmp order a b ≡ Some Greater → partial_ge (vote_cmp order) a b ≡ true
  at_least a b h = rw h refl
