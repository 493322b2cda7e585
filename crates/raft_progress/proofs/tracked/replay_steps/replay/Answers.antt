use Rattle.std.specs.Coded.{Coded-set, coded_list}
use Rattle.std.specs.Vec.Iter.{into_iter_items}
use Rattle.std.proofs.Common.{◌≡◌, ◌∷◌, [], ◌++◌, List, ap, append_assoc, arith, length, subst, sym, ◌∙◌}
use Rattle.std.proofs.lemmas.List.{append-nil, nil_from_length}
use Rattle.raft_progress.specs.tracked.Tracked.{tracked_view}
use Rattle.raft_progress.specs.tracked.TrackedViewSteps.{IsTrackedViewRun, IsTrackedViewStep}
use Rattle.raft_progress.specs.tracked.TrackedState.{tracked_state}
use Rattle.raft_progress.specs.tracked.TrackedSteps.{IsSameTracked, IsTrackedStep}
use Rattle.raft_progress.specs.declared.progress.steps.Reply.{Reply}
use Rattle.raft_progress.specs.declared.tracked.step.Step.{Step}
use Rattle.raft_progress.proofs.lemmas.tracked.ChangeLemmas.{IsSameTracked-refl}
use Rattle.raft_progress.proofs.lemmas.progress.GrantedLemmas.{tracked_run_not_lower}
use Rattle.raft_progress.proofs.lemmas.tracked.HeadlineLemmas.{each_quorum_knows}
use Rattle.raft_progress.proofs.lemmas.tracked.ReadyLemmas.{ready_of}
use Rattle.raft_progress.proofs.lemmas.OrderLemmas.{AtMost-refl}
use Rattle.raft_progress.proofs.lemmas.progress.RunLemmas.{run_more, run_seen}
use Rattle.raft_progress.proofs.lemmas.progress.Traits.{compared}
use Rattle.raft_progress.proofs.tracked.replay_steps.replay.Goals as goal

pub returns-in_err-replies-clause-ready : goal.returns-in_err-replies-clause-ready
returns-in_err-replies-clause-ready g c =
    ready_of g.met.NID.Eq.laws g.NID.Ord.cmp g.met.P.Ord.total g.V.ProgressPart.part_of
    (Coded-set (coded_list (coded_list g.row.NID.coded))) (tracked_view c.args.cluster.now) c.args.cluster.now.ready

pub returns-in_err-replies-clause-granted : goal.returns-in_err-replies-clause-granted
returns-in_err-replies-clause-granted g c =
    (ready_of g.met.NID.Eq.laws g.NID.Ord.cmp g.met.P.Ord.total g.V.ProgressPart.part_of
    (Coded-set (coded_list (coded_list g.row.NID.coded))) (tracked_view c.args.cluster.now) c.args.cluster.now.ready).ordered.counted

pub returns-in_err-replies-clause-quorums : goal.returns-in_err-replies-clause-quorums
returns-in_err-replies-clause-quorums g c =
    λ some. (each_quorum_knows g.met.NID.Eq.laws g.NID.Ord.cmp g.met.P.Ord.total g.V.ProgressPart.part_of (tracked_view c.args.cluster.now)
    (ready_of g.met.NID.Eq.laws g.NID.Ord.cmp g.met.P.Ord.total g.V.ProgressPart.part_of
    (Coded-set (coded_list (coded_list g.row.NID.coded))) (tracked_view c.args.cluster.now) c.args.cluster.now.ready) some).0

pub returns-in_err-replies-clause-changed_quorums : goal.returns-in_err-replies-clause-changed_quorums
returns-in_err-replies-clause-changed_quorums g c =
    λ some. (each_quorum_knows g.met.NID.Eq.laws g.NID.Ord.cmp g.met.P.Ord.total g.V.ProgressPart.part_of (tracked_view c.args.cluster.now)
    (ready_of g.met.NID.Eq.laws g.NID.Ord.cmp g.met.P.Ord.total g.V.ProgressPart.part_of
    (Coded-set (coded_list (coded_list g.row.NID.coded))) (tracked_view c.args.cluster.now) c.args.cluster.now.ready) some).1

pub loop-step-preserved : goal.loop-step-preserved
loop-step-preserved g c =
    let by = compared g.NID.PartialEq.eq g.NID.Ord.cmp g.P.Ord.cmp g.V.PartialOrd.partial_cmp g.V.ProgressPart.part_of g.V.Clone.is_clone in
    record {
      left = append_assoc c.loop-step.yielded (c.in-Some.step ∷ []) (into_iter_items c.next.new.self)
          ∙ ap (λ xs. c.loop-step.yielded ++ xs) (sym c.in-Some.ensures.steps.0) ∙ c.loop-step.invariant.left;
      scratch = omega (
        arith,
        c.push_reserved.ensures.len,
        c.push_reserved.ensures.capacity,
        ap length c.in-Some.ensures.steps.0,
        c.loop-step.invariant.scratch,
      );
      run =
          subst (λ (rs : List (Reply g.row.NID.Denot g.row.P.Denot)). IsTrackedViewRun by g.N.PartialEq.eq (tracked_view c.args.cluster.now)
          (c.loop-step.yielded ++ c.in-Some.step ∷ []) rs (tracked_view c.answer-reply.new.self)) (sym c.push_reserved.ensures.items)
          (run_more (IsTrackedViewStep by g.N.PartialEq.eq) (tracked_view c.args.cluster.now) (tracked_view c.loop-step.cluster)
          (tracked_view c.answer-reply.new.self) c.in-Some.step c.answer-reply.result c.loop-step.yielded c.loop-step.replies.items
          c.loop-step.invariant.run c.answer-reply.ensures);
    }

pub returns-clause-view_run : goal.returns-clause-view_run
returns-clause-view_run g c =
    let by = compared g.NID.PartialEq.eq g.NID.Ord.cmp g.P.Ord.cmp g.V.PartialOrd.partial_cmp g.V.ProgressPart.part_of g.V.Clone.is_clone in
    let all : c.loop-step.yielded ≡ c.args.steps.items =
    sym (append-nil c.loop-step.yielded) ∙ ap (λ xs. c.loop-step.yielded ++ xs)
    (sym (nil_from_length (into_iter_items c.loop-step.step-iterator)
    (sym c.loop-step.step-iterator.rest.ok.0 ∙ c.in-None.ensures.steps.0))) ∙ c.loop-step.invariant.left in
    subst (λ (xs : List (Step g.row.NID.Denot g.row.N.Denot g.row.V.Denot)). IsTrackedViewRun by g.N.PartialEq.eq
    (tracked_view c.args.cluster.now) xs c.loop-step.replies.items (tracked_view c.loop-step.cluster)) all c.loop-step.invariant.run

pub returns-clause-run : goal.returns-clause-run
returns-clause-run g c =
    let by = compared g.NID.PartialEq.eq g.NID.Ord.cmp g.P.Ord.cmp g.V.PartialOrd.partial_cmp g.V.ProgressPart.part_of g.V.Clone.is_clone in
    run_seen (IsTrackedViewStep by g.N.PartialEq.eq) (IsTrackedStep by g.N.PartialEq.eq) IsSameTracked (tracked_state g.NID.PartialEq.eq)
    (λ old step reply new s. s.values) IsSameTracked-refl
    (tracked_view c.args.cluster.now) c.args.steps.items c.loop-step.replies.items (tracked_view c.loop-step.cluster)
    (returns-clause-view_run g c)

pub returns-clause-ready : goal.returns-clause-ready
returns-clause-ready g c = ready_of g.met.NID.Eq.laws g.NID.Ord.cmp g.met.P.Ord.total g.V.ProgressPart.part_of
    (Coded-set (coded_list (coded_list g.row.NID.coded))) (tracked_view c.loop-step.cluster) c.loop-step.cluster.ready

pub returns-clause-granted : goal.returns-clause-granted
returns-clause-granted g c = (ready_of g.met.NID.Eq.laws g.NID.Ord.cmp g.met.P.Ord.total g.V.ProgressPart.part_of
    (Coded-set (coded_list (coded_list g.row.NID.coded))) (tracked_view c.loop-step.cluster) c.loop-step.cluster.ready).ordered.counted

pub returns-clause-quorums : goal.returns-clause-quorums
returns-clause-quorums g c = λ some. (each_quorum_knows g.met.NID.Eq.laws g.NID.Ord.cmp g.met.P.Ord.total g.V.ProgressPart.part_of
    (tracked_view c.loop-step.cluster) (ready_of g.met.NID.Eq.laws g.NID.Ord.cmp g.met.P.Ord.total g.V.ProgressPart.part_of
    (Coded-set (coded_list (coded_list g.row.NID.coded))) (tracked_view c.loop-step.cluster) c.loop-step.cluster.ready) some).0

pub returns-clause-changed_quorums : goal.returns-clause-changed_quorums
returns-clause-changed_quorums g c = λ some.
    (each_quorum_knows g.met.NID.Eq.laws g.NID.Ord.cmp g.met.P.Ord.total g.V.ProgressPart.part_of (tracked_view c.loop-step.cluster)
    (ready_of g.met.NID.Eq.laws g.NID.Ord.cmp g.met.P.Ord.total g.V.ProgressPart.part_of
    (Coded-set (coded_list (coded_list g.row.NID.coded))) (tracked_view c.loop-step.cluster) c.loop-step.cluster.ready) some).1

pub returns-clause-monotone : goal.returns-clause-monotone
returns-clause-monotone g c = λ none.
    let by = compared g.NID.PartialEq.eq g.NID.Ord.cmp g.P.Ord.cmp g.V.PartialOrd.partial_cmp g.V.ProgressPart.part_of g.V.Clone.is_clone in
    tracked_run_not_lower by g.met.P.Ord.total g.N.PartialEq.eq
    (tracked_view c.args.cluster.now) c.args.steps.items c.loop-step.replies.items
    (tracked_view c.loop-step.cluster) (returns-clause-view_run g c) none

pub returns-in_err-replies-clause-monotone : goal.returns-in_err-replies-clause-monotone
returns-in_err-replies-clause-monotone g c = λ none. AtMost-refl g.met.P.Ord.total (tracked_view c.args.cluster.now).progress.granted
