use Rattle.std.specs.Prelude.{⊤}
use Rattle.std.proofs.lemmas.Result.{MatchResult-from_err}
use Rattle.raft_script.proofs.lemmas.ReplyLemmas.{left_by_step}
use Rattle.raft_script.proofs.script.run_command.Goals as goal

pub returns-in_err-write-in-Step-clause-fault : goal.returns-in_err-write-in-Step-clause-fault
returns-in_err-write-in-Step-clause-fault g c =
    MatchResult-from_err c.from_residual-in_err-write-in-Step.result (λ _. ⊤) _ c.from_residual-in_err-write-in-Step.ensures.0
    (λ _. left_by_step _ c.args.command c.in-Step.step c.in_ok-answer-in-Step.field-0 c.in-Some.answer _ c.in-Step.is c.in-Some.is
    c.in_ok-answer-in-Step.ensures.ok)
