use Rattle.std.proofs.Common.{◌≡◌, ◌+◌, ◌∷◌, ◌∙◌, drop, ap, arith, sym, nat_eq, true, false}
use Rattle.std.proofs.lemmas.Bool.Decides.{nat_tests}
use Rattle.std.proofs.lemmas.List.{drop_more}
use Rattle.std.proofs.Math.ListN.{drop_of_length-le}
use Rattle.std.proofs.Math.Seq.{drop-length}
use Rattle.steps_handlers.proofs.lemmas.RestartLemmas.{past_later, past_other, past_same}
use Rattle.steps_handlers.proofs.restart.first_past.Goals as goal
use Rattle.steps_handlers.proofs.restart.first_past.Goals.{else-log_id-upto-via-else-log_id-upto, else-log_id-upto-via-then-log_id-upto+else-ne}

pub loop-place-preserved : goal.loop-place-preserved
loop-place-preserved g c =
    let es = c.args.entries.now in
    let i = c.loop-place.place in
    let e = c.index-entries-place.result in
    let more : drop i es ≡ e ∷ drop (i + 1) es =
    drop_more es i e c.loop-place-test.true ∙ ap (λ x. x ∷ drop (i + 1) es) (sym c.index-entries-place.is) in
    let before = rw more at c.loop-place.invariant in
    elim c.else-log_id-upto.branch [
      | else-log_id-upto-via-then-log_id-upto+else-ne w ↦
          sym (past_same g.C.PartialEq.eq c.in-Some.upto e (drop (i + 1) es) c.if-upto-log_id.false
          (sym w.ne.ensures ∙ w.if-ne.false)) ∙ before
      | else-log_id-upto-via-else-log_id-upto w ↦
          let apart : nat_eq e.log_id.index c.in-Some.upto.index ≡ false = grind (arith, nat_tests) in
          sym (past_later g.C.PartialEq.eq c.in-Some.upto e (drop (i + 1) es) c.if-upto-log_id.false apart) ∙ before
    ]

pub returns-then-ne-clause-past : goal.returns-then-ne-clause-past
returns-then-ne-clause-past g c =
    let es = c.args.entries.now in
    let i = c.loop-place.place in
    let e = c.index-entries-place.result in
    let more : drop i es ≡ e ∷ drop (i + 1) es =
    drop_more es i e c.loop-place-test.true ∙ ap (λ x. x ∷ drop (i + 1) es) (sym c.index-entries-place.is) in
    let here : nat_eq e.log_id.index c.in-Some.upto.index ≡ true = grind (arith, nat_tests) in
    rw c.in-Some.is (drop-length es ∙ sym (past_other g.C.PartialEq.eq c.in-Some.upto e (drop (i + 1) es) c.if-upto-log_id.false here
    (sym c.ne.ensures ∙ c.if-ne.true)) ∙ (rw more at c.loop-place.invariant))

pub returns-clause-past : goal.returns-clause-past
returns-clause-past g c =
    let es = c.args.entries.now in
    rw c.in-Some.is (drop-length es ∙ (rw (drop_of_length-le es c.loop-place-test.false) at c.loop-place.invariant))
