use Rattle.std.proofs.Common.{Some, ap, inr, sym, ◌+◌, ◌∙◌}
use Rattle.trace_judge.proofs.lemmas.FillLemmas.{some_if}
use Rattle.trace_judge.proofs.judge.Judge.test_index.Goals as goal

pub returns-in-Some-checked_add : goal.returns-in-Some-checked_add
returns-in-Some-checked_add c = λ es keeps.
    let len = some_if _ _ _ (sym (c.leader_len.ensures keeps.exact es keeps.keeps) ∙ c.in-Some-leader_len.is) in
    let next = c.in-Some-checked_add.ensures.1 ∙ ap (λ n. c.args.self.now.first + n) (sym len) in
    rw c.in-Wrote.is (inr (sym c.number.ensures ∙ c.in-Some.is ∙ ap Some (sym c.if-next-index.true ∙ next)))
