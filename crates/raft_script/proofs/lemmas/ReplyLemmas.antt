-- One step has one reply.
use Rattle.std.specs.Prelude.{◌≡◌, ◌<◌, ◌-◌, ℕ, List, [], ◌∷◌, Option, Some, length, slice_index_or}
use Rattle.std.proofs.Common.{arith, refl, sym, subst, ap, inl, inr, ◌∙◌}
use Rattle.raft_base.specs.declared.node.EmptyNode.{EmptyNode}
use Rattle.raft_progress.specs.tracked.TrackedSteps.{IsTrackedRun}
use Rattle.raft_progress.specs.declared.progress.steps.Reply.{Reply}
use Rattle.raft_progress.specs.declared.tracked.step.Step.{Step}
use Rattle.raft_script.specs.Engine.{EngineState, IsEngineStep, AnswersStep, by_number, same_node}
use Rattle.raft_script.specs.LineRun.{IsLeftByFault, RunsCommand, RunsLine}
use Rattle.raft_script.specs.Line.{SaysCommand}
use Rattle.raft_script.specs.ReplyText.{reply_text}
use Rattle.raft_script.specs.declared.script.command.Command.{Command}
use Rattle.raft_script.specs.declared.script.command.Command.TheVariants as command

abbrev IsReplay : EngineState → List (Step ℕ EmptyNode ℕ) → List (Reply ℕ ℕ) → EngineState → Type 0
IsReplay = IsTrackedRun by_number same_node

one_reply : (old : EngineState) (step : Step ℕ EmptyNode ℕ) (replies : List (Reply ℕ ℕ)) (new : EngineState)
    → IsReplay old (step ∷ []) replies new → (reply : Reply ℕ ℕ) × (replies ≡ reply ∷ []) × IsEngineStep old step reply new
one_reply old step (reply ∷ []) new run = (reply, refl, run)
one_reply old step [] new run = absurd run
one_reply old step (reply ∷ other ∷ others) new (middle, made, run) = absurd run

-- the last reply to a list of one step is that step's
pub answered : (first : Option EngineState) (old : EngineState) (step : Step ℕ EmptyNode ℕ) (steps : List (Step ℕ EmptyNode ℕ))
    (replies : List (Reply ℕ ℕ)) (last : Option (Reply ℕ ℕ)) (new : EngineState) (n : ℕ) → first ≡ Some old → steps ≡ step ∷ []
    → IsReplay old steps replies new → n ≡ length replies
    → ((other : Reply ℕ ℕ) → 0 < n → last ≡ Some (slice_index_or replies (n - 1) other)) → AnswersStep first step last (Some new)
answered first old step steps replies last new n is one run many ends =
    let found = one_reply old step replies new (subst (λ (s : List (Step ℕ EmptyNode ℕ)). IsReplay old s replies new) one run) in
    let single : n ≡ 1 = many ∙ ap length found.1 in
    let first_reply : last ≡ Some found.0 =
    ends found.0 (omega arith) ∙ ap (λ k. Some (slice_index_or replies (k - 1) found.0)) single
    ∙ ap (λ rs. Some (slice_index_or rs 0 found.0)) found.1 in
    subst (λ (f : Option EngineState). AnswersStep f step last (Some new)) (sym is)
    (subst (λ (l : Option (Reply ℕ ℕ)). AnswersStep (Some old) step l (Some new)) (sym first_reply) (new, refl, found.2))

-- an error after a step leaves the step, if its reply is not written
pub left_by_step : (old : Option EngineState) (said : Command) (step : Step ℕ EmptyNode ℕ) (answer : Option (Reply ℕ ℕ)) (reply : Reply ℕ ℕ)
    (new : Option EngineState) → said ≡ command.Step step → answer ≡ Some reply → AnswersStep old step answer new
    → IsLeftByFault (RunsCommand old said) old new
left_by_step old said step answer reply new is one answers =
    subst (λ (c : Command). IsLeftByFault (RunsCommand old c) old new) (sym is)
    (inr (reply_text reply, (reply, subst (λ (a : Option (Reply ℕ ℕ)). AnswersStep old step a new) one answers, refl)))

-- what a fault leaves of a command, it leaves of the line that says the command
pub left_by_line : (old : Option EngineState) (line : List ℕ) (said : Command) (new : Option EngineState) → SaysCommand line said
    → IsLeftByFault (RunsCommand old said) old new → IsLeftByFault (RunsLine old line) old new
left_by_line old line said new says (inl same) = inl same
left_by_line old line said new says (inr (text, runs)) = inr (text, inr (said, says, runs))
