use Rattle.std.proofs.Common.{◌∙◌, sym}
use Rattle.raft_state.proofs.lemmas.log_id_list.ExtendLemmas.{is_key_list}
use Rattle.raft_state.proofs.lemmas.validate.LoggedLemmas.{logged_keys, purge_in}
use Rattle.raft_state.proofs.lemmas.validate.RelationLemmas.{all_hold}
use Rattle.raft_state.specs.raft_state.VoteAndLog.{log_view_of}
use Rattle.raft_state.proofs.raft_state.RaftStateIn.purge_upto_is_logged.Goals as goal

pub returns-clause-logged : goal.returns-clause-logged
returns-clause-logged g c h is =
    let s = c.args.self.now in
    let canonical = rw c.key_log_ids-keys.ensures.keys at c.key_log_ids-keys.ensures.canonical in
    let keys = is_key_list g.C.Ord.cmp s.log_ids canonical in
    let first = all_hold _ _ _ h in
    let second = all_hold _ _ _ first.1 in
    logged_keys g.C.Ord.cmp g.met.C.Ord.total s.log_ids s.purge_upto (log_view_of s) keys
    (purge_in g.C.Ord.cmp g.C.PartialEq.eq s.purged_next s.log_ids s.purge_upto (log_view_of s) first.0 second.0
    (sym c.is_logged.ensures ∙ is))
