use Rattle.std.specs.Prelude.{max}
use Rattle.std.proofs.Common.{ap, sym, ◌+◌, ◌∙◌}
use Rattle.std.proofs.lemmas.Result.{on_ok_weaker}
use Rattle.trace_judge.proofs.lemmas.FillLemmas.{some_if}
use Rattle.trace_judge.proofs.judge.Judge.commit_counted.Goals as goal

pub returns-in-Some-counted : goal.returns-in-Some-counted
returns-in-Some-counted c =
    on_ok_weaker c.commit_at.result (λ fills number_of first d says.
    fills number_of first d (λ es keeps.
    let start = some_if _ _ _ (sym (c.leader_start.ensures keeps.exact es keeps.keeps) ∙ c.in-Some.is) in (
      c.args.server,
      c.args.len,
      says,
      c.max-own_len.ensures ∙ ap (λ n. max c.args.len n) (c.in-Some-checked_add.ensures.1 ∙ ap (λ n. n + 1) (sym start)),
    )))
    c.commit_at.ensures
