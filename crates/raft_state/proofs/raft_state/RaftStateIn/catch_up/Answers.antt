use Rattle.std.proofs.Common.{◌∙◌}
use Rattle.raft_state.proofs.lemmas.catch_up.CatchUpLemmas.{tested}
use Rattle.raft_state.proofs.raft_state.RaftStateIn.catch_up.Goals as goal

pub catch_up_entry-requires-clause-logged : goal.catch_up_entry-requires-clause-logged
catch_up_entry-requires-clause-logged g c =
    let can = tested g.C.PartialEq.eq g.C.Ord.cmp c.args.self.now c.args.entry.now c.args.agree c.args.max_entries c.requires in
    let is_logged = c.purge_upto_is_logged-is_logged.ensures in
    is_logged.logged can.0 (is_logged.exact ∙ can.1)

pub catch_up_entry-requires-clause-can : goal.catch_up_entry-requires-clause-can
catch_up_entry-requires-clause-can g c = (tested g.C.PartialEq.eq g.C.Ord.cmp c.args.self.now c.args.entry.now c.args.agree
    c.args.max_entries c.requires).2
