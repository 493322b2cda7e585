use Rattle.std.proofs.Common.{subst, List}
use Rattle.std.specs.Prelude.{◌↔◌, IsTrue}
use Rattle.std.specs.List.{IsDistinct}
use Rattle.raft_progress.proofs.lemmas.progress.upgrade.LearnersFitLemmas.{ascending_distinct, distinct_fits, fits_distinct}
use Rattle.raft_progress.proofs.progress.vec_progress.VecProgressProgress.learners_fit.Goals as goal

pub returns : goal.returns
returns g c =
    let told = subst (λ (ids : List g.row.ID.Denot). IsTrue c.are_distinct.result ↔ IsDistinct g.ID.PartialEq.eq ids) c.in_ok-ids.ensures
    c.are_distinct.ensures in
    let voters = c.in_ok-voters.voters.items in
    let is_voter = g.QS.QuorumSet.is_voter c.args.quorum_set.now in (
      (λ e. distinct_fits g.met.ID.Eq.laws voters is_voter c.in_ok-voters.ensures.voters c.args.learners.now (told.0 e)),
      (λ f. told.1 (fits_distinct g.met.ID.Eq.laws voters is_voter c.in_ok-voters.ensures.voters c.args.learners.now
          (ascending_distinct g.met.ID.Eq.laws g.met.ID.Ord.total g.met.ID.Ord.matches_eq voters c.in_ok-voters.ensures.ascending) f)),
    )
