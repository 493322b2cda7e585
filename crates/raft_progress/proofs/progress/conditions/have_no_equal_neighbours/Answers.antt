use Rattle.std.proofs.Common.{arith, ap, get_or, refl, sym, true≢false, ◌∙◌, ◌-◌}
use Rattle.std.proofs.lemmas.Map.Keys.{apart_from_distinct}
use Rattle.raft_progress.proofs.lemmas.progress.positions.PositionsLemmas.{any_default}
use Rattle.raft_progress.proofs.lemmas.progress.upgrade.LearnersFitLemmas.{sorted_distinct}
use Rattle.raft_progress.proofs.progress.conditions.have_no_equal_neighbours.Goals as goal

pub returns-then-eq : goal.returns-then-eq
returns-then-eq g c =
    let ids = c.args.ids.now in
    let position = c.loop-position.position in
    let before = c.index-ids-position.result in
    let here = c.index-ids-position-in-loop-position.result in
    let same = c.index-ids-position-in-loop-position.is ∙ any_default ids position here before c.loop-position-test.true in (
      (λ f. absurd (true≢false (sym f))),
      (λ d. absurd (true≢false
          (sym c.if-eq.true ∙ c.eq.ensures ∙ ap (λ x. g.ID.PartialEq.eq x here) c.index-ids-position.is
          ∙ ap (λ y. g.ID.PartialEq.eq (get_or ids (position - 1) before) y) same
          ∙ apart_from_distinct g.ID.PartialEq.eq ids (position - 1) position before d (omega arith) (omega arith)))),
    )

pub returns : goal.returns
returns g c = (
  (λ t. sorted_distinct g.met.ID.Eq.laws g.met.ID.Ord.total g.met.ID.Ord.matches_eq c.args.ids.now c.requires
      (λ k d l. c.loop-position.invariant k d (omega arith))),
  (λ d. refl),
)
