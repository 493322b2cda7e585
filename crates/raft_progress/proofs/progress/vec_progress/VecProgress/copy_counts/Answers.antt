use Rattle.std.proofs.Common.{arith}
use Rattle.raft_progress.proofs.lemmas.progress.StatisticsLemmas.{counts_begin}
use Rattle.raft_progress.proofs.progress.vec_progress.VecProgress.copy_counts.Goals as goal

pub returns-clause-counts : goal.returns-clause-counts
returns-clause-counts g c = λ voters. counts_begin voters c.args.stat.now (omega arith) (omega arith) (omega arith)
