use Rattle.raft_state.proofs.lemmas.SendLemmas.{sends_from_log}
use Rattle.raft_state.proofs.laws.sends_from_log.Goals as goal

pub returns : goal.returns
returns g c log entry new n logged idle can ok = sends_from_log g.C.Ord.cmp log logged n entry new idle can ok
