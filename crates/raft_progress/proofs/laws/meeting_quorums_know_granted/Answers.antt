use Rattle.raft_progress.proofs.lemmas.progress.ThresholdLemmas.{meeting_know}
use Rattle.raft_progress.proofs.laws.meeting_quorums_know_granted.Goals as goal

pub returns : goal.returns
returns g c p ordered meet = meeting_know g.met.ID.Eq.laws g.met.P.Ord.total g.V.ProgressPart.part_of g.QS.QuorumSet.has_quorum
    g.met.QS.QuorumSet.superset p ordered meet
