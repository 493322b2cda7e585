use Rattle.raft_progress.proofs.lemmas.progress.CloneLemmas.{clones_keep_order}
use Rattle.raft_progress.proofs.laws.clones_keep_order.Goals as goal

pub returns : goal.returns
returns g c = clones_keep_order g.ID.PartialEq.eq g.P.Ord.cmp g.V.ProgressPart.part_of g.QS.QuorumSet.has_quorum g.V.Clone.is_clone
    g.QS.Clone.is_clone
