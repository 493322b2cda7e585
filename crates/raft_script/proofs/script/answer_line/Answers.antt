use Rattle.std.specs.Prelude.{⊤, IfSome}
use Rattle.std.proofs.Common.{Option, subst}
use Rattle.std.proofs.lemmas.Result.{MatchResult-from_err}
use Rattle.raft_script.specs.Line.{SaysCommand}
use Rattle.raft_script.specs.declared.script.command.Command.{Command}
use Rattle.raft_script.proofs.lemmas.ReplyLemmas.{left_by_line}
use Rattle.raft_script.proofs.script.answer_line.Goals as goal

pub returns-in_err-run_command-in-Ok-Some-clause-fault : goal.returns-in_err-run_command-in-Ok-Some-clause-fault
returns-in_err-run_command-in-Ok-Some-clause-fault g c =
    let says = subst (λ (o : Option Command). IfSome o (SaysCommand c.args.line.now)) c.in-Ok-Some.field-0-is
    c.in-Ok-Some.ensures.command in
    MatchResult-from_err c.from_residual.result (λ _. ⊤) _ c.from_residual.ensures.0
    (λ _. left_by_line _ c.args.line.now c.in-Ok-Some.command _ says c.in_err-run_command-in-Ok-Some.ensures.fault)
