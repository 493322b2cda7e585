use Rattle.raft_progress.proofs.lemmas.progress.ThresholdLemmas.{threshold}
use Rattle.raft_progress.proofs.laws.granted_is_threshold.Goals as goal

pub returns : goal.returns
returns g c = threshold g.met.ID.Eq.laws g.met.P.Ord.total g.V.ProgressPart.part_of g.QS.QuorumSet.has_quorum g.met.QS.QuorumSet.superset
