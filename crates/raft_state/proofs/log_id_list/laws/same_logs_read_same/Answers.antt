use Rattle.raft_state.proofs.lemmas.log_id_list.SameEditsLemmas.{first_id_finds, id_at_finds, last_id_finds}
use Rattle.raft_state.proofs.log_id_list.laws.same_logs_read_same.Goals as goal

pub returns-clause-at_index : goal.returns-clause-at_index
returns-clause-at_index g c index a b same = id_at_finds g.C.PartialEq.eq index a b same

pub returns-clause-first : goal.returns-clause-first
returns-clause-first g c a b same = first_id_finds g.C.PartialEq.eq a b same

pub returns-clause-last : goal.returns-clause-last
returns-clause-last g c a b same = last_id_finds g.C.PartialEq.eq a b same
