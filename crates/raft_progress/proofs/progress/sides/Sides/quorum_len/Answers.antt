use Rattle.std.proofs.Common.{count_by, false, get_or, take}
use Rattle.raft_progress.proofs.lemmas.progress.SideLemmas.{both_long}
use Rattle.raft_progress.proofs.progress.sides.Sides.quorum_len.Goals as goal

pub returns : goal.returns
returns c = λ k l.
    both_long c.majority_len-of_first.result c.majority_len-of_second.result c.max.result k _ _ (c.majority_len-of_first.ensures k l)
    (c.majority_len-of_second.ensures k l) c.max.ensures
