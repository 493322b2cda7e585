use Rattle.raft_state.specs.log_id_list.FullLogLawful.{same_log-equiv}
use Rattle.raft_state.proofs.lemmas.log_id_list.SameEditsLemmas.{appended_keeps, extended_keeps, front_keeps, purged_keeps}
use Rattle.raft_state.proofs.log_id_list.laws.same_logs_stay_same.Goals as goal

pub returns-clause-equality : goal.returns-clause-equality
returns-clause-equality g c = same_log-equiv g.met.C.Eq.laws

pub returns-clause-appended : goal.returns-clause-appended
returns-clause-appended g c id a b same = appended_keeps g.C.PartialEq.eq g.met.C.Eq.laws id a b same

pub returns-clause-extended : goal.returns-clause-extended
returns-clause-extended g c ids a b same = extended_keeps g.C.PartialEq.eq g.met.C.Eq.laws ids a b same

pub returns-clause-front : goal.returns-clause-front
returns-clause-front g c at a b same = front_keeps g.C.PartialEq.eq at a b same

pub returns-clause-purged : goal.returns-clause-purged
returns-clause-purged g c upto a b same = purged_keeps g.C.PartialEq.eq g.met.C.Eq.laws upto a b same
