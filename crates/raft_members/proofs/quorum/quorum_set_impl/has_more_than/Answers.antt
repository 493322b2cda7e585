use Rattle.std.proofs.Common.{◌≡◌, ◌+◌, true, false, cond, arith, sym, ap, ◌∙◌, get_or, lt-ltb}
use Rattle.std.proofs.lemmas.List.Sums.{count_by_more_no, count_by_more_yes, sum_by-take-le}
use Rattle.raft_members.proofs.quorum.quorum_set_impl.has_more_than.Goals as goal
use Rattle.raft_members.proofs.quorum.quorum_set_impl.has_more_than.Goals.{then-is_voter+else-found-limit, else-is_voter}

pub returns-then-found-limit : goal.returns-then-found-limit
returns-then-found-limit g c = λ voter says.
    let here : voter (get_or c.args.ids.now c.loop-id.id-index c.id-item.result) ≡ true =
    ap voter (sym c.id-item.is) ∙ sym (says c.id-item.result c.is_voter.result c.is_voter.ensures) ∙ c.if-is_voter.true in
    sym (lt-ltb _ _ (omega (
      arith,
      c.loop-id.invariant.0 voter says,
      c.if-found-limit.true,
      count_by_more_yes voter c.args.ids.now
          c.loop-id.id-index c.id-item.result c.loop-id-test.true here,
      sum_by-take-le (λ x. cond (voter x) 1 0) c.args.ids.now
          (c.loop-id.id-index + 1),
    )))

pub loop-id-preserved : goal.loop-id-preserved
loop-id-preserved g c = elim c.if-is_voter.branch [
  | then-is_voter+else-found-limit w ↦ (
    λ voter says.
        let here : voter (get_or c.args.ids.now c.loop-id.id-index c.id-item.result) ≡ true =
        ap voter (sym c.id-item.is) ∙ sym (says c.id-item.result c.is_voter.result c.is_voter.ensures) ∙ w.if-is_voter.true in
        w.found-is ∙ ap (λ n. n + 1) (c.loop-id.invariant.0 voter says)
        ∙ sym (count_by_more_yes voter c.args.ids.now c.loop-id.id-index c.id-item.result c.loop-id-test.true here),
    omega (arith, c.loop-id.invariant.1, w.if-found-limit.false, w.found-is),
  )
  | else-is_voter w ↦ (
    λ voter says.
        let here : voter (get_or c.args.ids.now c.loop-id.id-index c.id-item.result) ≡ false =
        ap voter (sym c.id-item.is) ∙ sym (says c.id-item.result c.is_voter.result c.is_voter.ensures) ∙ w.if-is_voter.false in
        w.found-is ∙ c.loop-id.invariant.0 voter says
        ∙ sym (count_by_more_no voter c.args.ids.now c.loop-id.id-index c.id-item.result c.loop-id-test.true here),
    omega (arith, c.loop-id.invariant.1, w.found-is),
  )
]
