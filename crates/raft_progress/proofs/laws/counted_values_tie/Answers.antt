use Rattle.raft_progress.proofs.lemmas.progress.ThresholdLemmas.{counted_values_tie}
use Rattle.raft_progress.proofs.laws.counted_values_tie.Goals as goal

pub returns : goal.returns
returns g c = counted_values_tie g.met.P.Ord.total g.V.ProgressPart.part_of g.QS.QuorumSet.has_quorum
