use Rattle.raft_progress.proofs.CallerLemmas.{in_order_kept, with_value_keeps}
use Rattle.raft_progress.proofs.laws.kept_parts_keep_order.Goals as goal

pub returns-clause-ordered : goal.returns-clause-ordered
returns-clause-ordered g c = in_order_kept g.ID.PartialEq.eq g.V.ProgressPart.part_of g.P.Ord.cmp g.QS.QuorumSet.has_quorum

pub returns-clause-same_part : goal.returns-clause-same_part
returns-clause-same_part g c = with_value_keeps g.ID.PartialEq.eq g.V.ProgressPart.part_of
