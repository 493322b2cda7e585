use Rattle.std.proofs.Common.{sym, ◌∙◌}
use Rattle.raft_state.proofs.lemmas.validate.CommittedLemmas.{cut_past_committed}
use Rattle.raft_state.proofs.lemmas.log_id_list.ExtendLemmas.{is_key_list}
use Rattle.raft_state.proofs.raft_state.RaftStateIn.committed_is_logged.Goals as goal

pub returns-clause-cut : goal.returns-clause-cut
returns-clause-cut g c logged since past =
    let s = c.args.self.now in
    let canonical = rw c.key_log_ids-keys.ensures.keys at c.key_log_ids-keys.ensures.canonical in
    cut_past_committed g.C.Ord.cmp g.C.PartialEq.eq g.met.C.Ord.total g.met.C.Ord.matches_eq
    g.met.C.Eq.laws s since
    (is_key_list g.C.Ord.cmp s.log_ids canonical) (sym c.is_logged.ensures ∙ logged) past
