use Rattle.std.proofs.Common.{subst, sym, true≢false}
use Rattle.raft_progress.specs.progress.CountedValue.{IsCounted}
use Rattle.raft_progress.specs.progress.ProgressView.{state}
use Rattle.raft_progress.specs.progress.VecProgress.{view}
use Rattle.raft_progress.proofs.lemmas.progress.RefusalLemmas.{refused_upgrade}
use Rattle.raft_progress.proofs.progress.vec_progress.VecProgress.upgrade_unless_refused.Goals as goal

pub returns-in-Some-clause-step : goal.returns-in-Some-clause-step
returns-in-Some-clause-step g c =
    refused_upgrade g.ID.PartialEq.eq g.ID.Ord.cmp g.P.Ord.cmp g.V.ProgressPart.part_of g.V.Clone.is_clone g.QS.QuorumSet.has_quorum
    g.QS.QuorumSet.is_voter (view c.args.self.now) c.args.quorum_set c.args.learners.now c.args.default c.in-Some.refusal
    (c.requires.some c.in-Some.refusal c.in-Some.is)

pub returns-in_ok-upgraded-in-None-clause-step : goal.returns-in_ok-upgraded-in-None-clause-step
returns-in_ok-upgraded-in-None-clause-step g c = record {
  values = (
    (c.requires.none c.in-None.is).0,
    (c.requires.none c.in-None.is).1,
    c.in_ok-upgraded-in-None.ensures.made,
    subst (λ (p : g.row.P.Denot). IsCounted g.P.Ord.cmp g.V.ProgressPart.part_of g.QS.QuorumSet.has_quorum
        (state g.ID.PartialEq.eq (view c.in_ok-upgraded-in-None.upgraded)) p) (sym c.granted.ensures)
        c.in_ok-upgraded-in-None.ensures.ordered.counted,
  );
  answered = record {
    refused = λ r. absurd (true≢false (sym r));
    done = λ r. c.in_ok-upgraded-in-None.ensures.fold;
    tells = c.granted.ensures;
  };
}
