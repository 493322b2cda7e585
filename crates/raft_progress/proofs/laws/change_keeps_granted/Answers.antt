use Rattle.raft_progress.proofs.lemmas.tracked.KnownLemmas.{change_keeps_granted}
use Rattle.raft_progress.proofs.laws.change_keeps_granted.Goals as goal

pub returns : goal.returns
returns g c = change_keeps_granted g.met.NID.Eq.laws g.NID.Ord.cmp g.N.PartialEq.eq g.met.P.Ord.total g.V.ProgressPart.part_of
    g.V.Clone.is_clone
