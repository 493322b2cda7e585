use Rattle.raft_progress.proofs.lemmas.tracked.ElectedLemmas.{elected_lacks_nothing, granted_meet}
use Rattle.raft_progress.proofs.laws.granted_meet.Goals as goal

pub returns-clause-voter : goal.returns-clause-voter
returns-clause-voter g c = granted_meet g.met.NID.Eq.laws g.NID.Ord.cmp g.met.P.Ord.total g.V.ProgressPart.part_of g.met.Q.Ord.total
    g.W.ProgressPart.part_of

pub returns-clause-lacks_nothing : goal.returns-clause-lacks_nothing
returns-clause-lacks_nothing g c = elected_lacks_nothing g.met.NID.Eq.laws g.NID.Ord.cmp g.met.P.Ord.total g.V.ProgressPart.part_of
    g.met.Q.Ord.total g.W.ProgressPart.part_of
