use Rattle.std.specs.Prelude.{⊤, nat_eq}
use Rattle.std.specs.Option.{option_map}
use Rattle.std.proofs.Common.{Some, ap, sym, ◌∙◌}
use Rattle.std.proofs.lemmas.Result.{MatchResult-from_err}
use Rattle.raft_progress.specs.tracked.Tracked.{tracked_view}
use Rattle.raft_progress.specs.tracked.TrackedState.{tracked_state}
use Rattle.raft_script.proofs.lemmas.ReplyLemmas.{answered}
use Rattle.raft_script.proofs.script.engine.Engine.answer.Goals as goal

pub returns-clause-ok : goal.returns-clause-ok
returns-clause-ok c =
    answered _ (tracked_state nat_eq (tracked_view c.in-Some.tracked)) c.args.step c.in_ok-steps.steps.items c.in_ok-replies.replies.items
    c.pop.result (tracked_state nat_eq (tracked_view c.replay.new.cluster)) _
    (ap (option_map (λ t. tracked_state nat_eq (tracked_view t))) c.in-Some.is) c.in_ok-steps.ensures.items c.in_ok-replies.ensures.run
    c.in_ok-replies.replies.ok.0 c.pop.ensures.value

pub returns-in_err-replies-clause-err : goal.returns-in_err-replies-clause-err
returns-in_err-replies-clause-err c =
    MatchResult-from_err c.from_residual-in_err-replies.result (λ _. ⊤) _ c.from_residual-in_err-replies.ensures.0
    (λ _. ap Some c.in_err-replies.ensures.err ∙ sym (ap (option_map tracked_view) c.in-Some.is))
