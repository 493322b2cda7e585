use Rattle.steps_safety.proofs.ViewLemmas.{are_safe}
use Rattle.steps_safety.proofs.laws.runs_are_safe.Goals as goal

pub returns : goal.returns
returns g c =
    are_safe _ _ g.N.PartialEq.eq
    (record {
      ids_equal = g.met.NID.Eq.laws;
      logs_equal = g.met.L.Committed.Eq.laws;
      total = g.met.L.Committed.Ord.total;
      ties = g.met.L.Committed.Ord.matches_eq;
      partial = g.met.L.LeaderIdentity.partial;
      by_term = g.met.L.LeaderIdentity.by_term;
      rises = g.met.L.LeaderIdentity.rises;
      lesser = g.met.L.LeaderIdentity.lesser;
      one_committed = g.met.L.LeaderIdentity.one_committed;
      made = g.met.L.LeaderIdentity.made;
    })
