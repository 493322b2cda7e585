use Rattle.raft_progress.proofs.lemmas.progress.LoggedLemmas.{granted_is_logged}
use Rattle.raft_progress.proofs.laws.granted_is_logged.Goals as goal

pub returns : goal.returns
returns g c = granted_is_logged g.ID.PartialEq.eq g.C.PartialEq.eq g.C.Ord.cmp g.V.ProgressPart.part_of g.QS.QuorumSet.has_quorum
    g.met.C.Eq.laws g.met.C.Ord.matches_eq
