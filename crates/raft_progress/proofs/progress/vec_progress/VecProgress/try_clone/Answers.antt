use Rattle.raft_progress.proofs.lemmas.progress.CloneLemmas.{clone_is_equal, ok_from_match}
use Rattle.raft_progress.specs.progress.VecProgress.{view}
use Rattle.raft_progress.proofs.progress.vec_progress.VecProgress.try_clone.Goals as goal

pub returns-clause-equal : goal.returns-clause-equal
returns-clause-equal g c =
    ok_from_match _ _ _ c.clone.result c.clone.ensures.cases
    (λ made cloned. clone_is_equal g.met.ID.Eq.laws g.V.PartialEq.eq g.met.P.Eq.laws g.QS.PartialEq.eq g.V.Clone.is_clone
    g.QS.Clone.is_clone c.requires.values c.requires.quorum_sets (view c.args.self.now) (view made) cloned)
