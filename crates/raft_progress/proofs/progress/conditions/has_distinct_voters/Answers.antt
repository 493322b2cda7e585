use Rattle.std.proofs.Common.{refl, sym, ◌∙◌, true≢false}
use Rattle.std.specs.Map.{keys_of}
use Rattle.std.proofs.lemmas.List.Sorted.{IsPermutation-sym}
use Rattle.std.proofs.lemmas.Map.Keys.{IsDistinct-IsPermutation}
use Rattle.raft_progress.proofs.lemmas.progress.InOrderLemmas.{joined_from_tests, tests_from_joined}
use Rattle.raft_progress.proofs.progress.conditions.has_distinct_voters.Goals as goal

pub returns-then-not-have_no_equal_neighbours : goal.returns-then-not-have_no_equal_neighbours
returns-then-not-have_no_equal_neighbours g c =
    let moved = rw c.write_ids.ensures at c.sort_unstable.ensures.permutation in (
      (λ f. absurd (true≢false (sym f))),
      (λ d. absurd (true≢false
          (sym (c.have_no_equal_neighbours.ensures.1
          (IsDistinct-IsPermutation g.ID.PartialEq.eq g.met.ID.Eq.laws.symm (keys_of c.args.voters.now) _ moved
          (tests_from_joined g.met.ID.Eq.laws c.args.voters.now c.args.learners.now d).0))
          ∙ c.if-not-have_no_equal_neighbours.true))),
    )

pub returns-then-not-has_distinct_ids : goal.returns-then-not-has_distinct_ids
returns-then-not-has_distinct_ids g c = (
  (λ f. absurd (true≢false (sym f))),
  (λ d. absurd (true≢false
      (sym (tests_from_joined g.met.ID.Eq.laws c.args.voters.now c.args.learners.now d).1 ∙ sym c.has_distinct_ids.ensures
      ∙ c.if-not-has_distinct_ids.true))),
)

pub returns-then-share_id : goal.returns-then-share_id
returns-then-share_id g c = (
  (λ f. absurd (true≢false (sym f))),
  (λ d. absurd (true≢false
      (sym c.if-share_id.true ∙ c.share_id.ensures ∙ (tests_from_joined g.met.ID.Eq.laws c.args.voters.now c.args.learners.now d).2))),
)

pub returns : goal.returns
returns g c =
    let moved = rw c.write_ids.ensures at c.sort_unstable.ensures.permutation in (
      (λ t. joined_from_tests g.met.ID.Eq.laws c.args.voters.now c.args.learners.now
          (IsDistinct-IsPermutation g.ID.PartialEq.eq g.met.ID.Eq.laws.symm _ (keys_of c.args.voters.now)
          (IsPermutation-sym (keys_of c.args.voters.now) _ moved)
          (c.have_no_equal_neighbours.ensures.0 c.if-not-have_no_equal_neighbours.false))
          (sym c.has_distinct_ids.ensures ∙ c.if-not-has_distinct_ids.false) (sym c.share_id.ensures ∙ c.if-share_id.false)),
      (λ d. refl),
    )
