use Rattle.std.proofs.Common.{◌∙◌, ◌++◌, ◌∷◌, [], ap}
use Rattle.std.proofs.lemmas.Result.{err_from_is_err_and}
use Rattle.trace_checker.proofs.checker.leader.Leader.new.Goals as goal

pub returns-in_err-push : goal.returns-in_err-push
returns-in_err-push g c =
    let p = err_from_is_err_and c.from_residual.result c.from_residual.ensures.1 in
    rw p.1 (record {
      term = tt;
      id = tt;
      start = tt;
      log = tt;
      voters = tt;
      acked = tt;
      committed = tt;
    })

pub returns-clause-voters : goal.returns-clause-voters
returns-clause-voters g c =
    c.in_ok-push.ensures.items ∙ ap (λ l. l ++ c.args.id ∷ []) c.new-voters.ensures.items
