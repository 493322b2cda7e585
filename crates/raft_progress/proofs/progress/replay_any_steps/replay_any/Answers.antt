use Rattle.std.proofs.Common.{◌≡◌, ◌∷◌, [], ◌++◌, List, ap, append_assoc, arith, length, subst, sym, ◌∙◌}
use Rattle.std.specs.Vec.Iter.{into_iter_items}
use Rattle.raft_progress.specs.progress.ProgressState.{IsSame}
use Rattle.raft_progress.specs.progress.ProgressView.{state}
use Rattle.raft_progress.specs.progress.ViewSteps.{IsViewRun, IsViewStep}
use Rattle.raft_progress.specs.progress.Steps.{IsStep}
use Rattle.raft_progress.specs.progress.VecProgress.{view}
use Rattle.std.proofs.lemmas.List.{append-nil, nil_from_length}
use Rattle.raft_progress.specs.declared.progress.steps.AnyStep.{AnyStep}
use Rattle.raft_progress.specs.declared.progress.steps.Reply.{Reply}
use Rattle.raft_progress.proofs.lemmas.progress.GrantedLemmas.{run_not_lower}
use Rattle.raft_progress.proofs.lemmas.OrderLemmas.{AtMost-refl}
use Rattle.raft_progress.proofs.lemmas.progress.RunLemmas.{run_more, run_seen}
use Rattle.raft_progress.proofs.lemmas.progress.Traits.{compared}
use Rattle.raft_progress.proofs.lemmas.progress.UpdateLemmas.{IsSame-refl}
use Rattle.raft_progress.proofs.progress.replay_any_steps.replay_any.Goals as goal

pub loop-step-preserved : goal.loop-step-preserved
loop-step-preserved g c =
    let by = compared g.ID.PartialEq.eq g.ID.Ord.cmp g.P.Ord.cmp g.V.PartialOrd.partial_cmp g.V.ProgressPart.part_of g.V.Clone.is_clone in
    record {
      ordered = c.answer-reply.ensures.ordered;
      left = append_assoc c.loop-step.yielded (c.in-Some.step ∷ []) (into_iter_items c.next.new.self)
          ∙ ap (λ xs. c.loop-step.yielded ++ xs) (sym c.in-Some.ensures.steps.0) ∙ c.loop-step.invariant.left;
      scratch = omega (
        arith,
        c.push_reserved.ensures.len,
        c.push_reserved.ensures.capacity,
        ap length c.in-Some.ensures.steps.0,
        c.loop-step.invariant.scratch,
      );
      run =
          subst (λ (rs : List (Reply g.row.ID.Denot g.row.P.Denot)). IsViewRun by g.QS.QuorumSet.has_quorum g.QS.QuorumSet.is_voter
          (view c.args.progress.now) (c.loop-step.yielded ++ c.in-Some.step ∷ []) rs (view c.answer-reply.new.self))
          (sym c.push_reserved.ensures.items)
          (run_more (IsViewStep by g.QS.QuorumSet.has_quorum g.QS.QuorumSet.is_voter) (view c.args.progress.now)
          (view c.loop-step.progress) (view c.answer-reply.new.self) c.in-Some.step c.answer-reply.result c.loop-step.yielded
          c.loop-step.replies.items c.loop-step.invariant.run c.answer-reply.ensures.step);
    }

pub returns-clause-view_run : goal.returns-clause-view_run
returns-clause-view_run g c =
    let by = compared g.ID.PartialEq.eq g.ID.Ord.cmp g.P.Ord.cmp g.V.PartialOrd.partial_cmp g.V.ProgressPart.part_of g.V.Clone.is_clone in
    let all : c.loop-step.yielded ≡ c.args.steps.items =
    sym (append-nil c.loop-step.yielded) ∙ ap (λ xs. c.loop-step.yielded ++ xs)
    (sym (nil_from_length (into_iter_items c.loop-step.step-iterator)
    (sym c.loop-step.step-iterator.rest.ok.0 ∙ c.in-None.ensures.steps.0))) ∙ c.loop-step.invariant.left in
    subst (λ (xs : List (AnyStep g.row.ID.Denot g.row.V.Denot g.row.QS.Denot)). IsViewRun by g.QS.QuorumSet.has_quorum
    g.QS.QuorumSet.is_voter (view c.args.progress.now) xs c.loop-step.replies.items (view c.loop-step.progress)) all
    c.loop-step.invariant.run

pub returns-clause-run : goal.returns-clause-run
returns-clause-run g c =
    let by = compared g.ID.PartialEq.eq g.ID.Ord.cmp g.P.Ord.cmp g.V.PartialOrd.partial_cmp g.V.ProgressPart.part_of g.V.Clone.is_clone in
    run_seen (IsViewStep by g.QS.QuorumSet.has_quorum g.QS.QuorumSet.is_voter)
    (IsStep by g.QS.QuorumSet.has_quorum g.QS.QuorumSet.is_voter) IsSame (state g.ID.PartialEq.eq) (λ old step reply new s. s.values)
    IsSame-refl
    (view c.args.progress.now) c.args.steps.items c.loop-step.replies.items (view c.loop-step.progress) (returns-clause-view_run g c)

pub returns-clause-monotone : goal.returns-clause-monotone
returns-clause-monotone g c = λ none.
    let by = compared g.ID.PartialEq.eq g.ID.Ord.cmp g.P.Ord.cmp g.V.PartialOrd.partial_cmp g.V.ProgressPart.part_of g.V.Clone.is_clone in
    run_not_lower by g.met.P.Ord.total g.QS.QuorumSet.has_quorum g.QS.QuorumSet.is_voter (view c.args.progress.now) c.args.steps.items
    c.loop-step.replies.items (view c.loop-step.progress) (returns-clause-view_run g c) none

pub returns-in_err-replies-clause-monotone : goal.returns-in_err-replies-clause-monotone
returns-in_err-replies-clause-monotone g c = λ none. AtMost-refl g.met.P.Ord.total c.args.progress.now.granted
