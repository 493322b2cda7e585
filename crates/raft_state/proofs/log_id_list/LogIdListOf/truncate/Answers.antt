use Rattle.raft_state.proofs.lemmas.log_id_list.CutLemmas.{full_cut}
use Rattle.raft_state.proofs.lemmas.log_id_list.FrontLemmas.{from_first}
use Rattle.raft_state.proofs.lemmas.log_id_list.KeptLemmas.{front_end, front_ends, front_reads}
use Rattle.raft_state.proofs.lemmas.log_id_list.ListLemmas.{truncate_keeps}
use Rattle.raft_state.proofs.lemmas.log_id_list.ExtendLemmas.{is_key_list}
use Rattle.raft_state.specs.log_id_list.FullLog.{first_index, full_log}
use Rattle.raft_state.proofs.log_id_list.LogIdListOf.truncate.Goals as goal

pub invariant_of-self : goal.invariant_of-self
invariant_of-self g c = rw c.truncate.ensures
    (truncate_keeps g.C.Ord.cmp g.C.PartialEq.eq g.met.C.Ord.total g.met.C.Ord.matches_eq g.met.C.Eq.laws c.self.inside.key_log_ids.items
    c.args.at (is_key_list g.C.Ord.cmp c.self.inside.key_log_ids.items c.self.invariant))

pub returns-clause-log : goal.returns-clause-log
returns-clause-log g c = rw (c.truncate.ensures, ← c.self.view_is)
    (full_cut g.C.Ord.cmp c.self.inside.key_log_ids.items c.args.at
    (is_key_list g.C.Ord.cmp c.self.inside.key_log_ids.items c.self.invariant))

pub returns-clause-last : goal.returns-clause-last
returns-clause-last g c =
    let keys = c.self.inside.key_log_ids.items in
    let row = from_first g.C.Ord.cmp keys (is_key_list g.C.Ord.cmp keys c.self.invariant) in
    rw (c.truncate.ensures, ← c.self.view_is, full_cut g.C.Ord.cmp keys c.args.at (is_key_list g.C.Ord.cmp keys c.self.invariant))
    (front_ends (first_index (full_log keys)) (full_log keys) c.args.at row)

pub returns-clause-end : goal.returns-clause-end
returns-clause-end g c =
    let keys = c.self.inside.key_log_ids.items in
    let row = from_first g.C.Ord.cmp keys (is_key_list g.C.Ord.cmp keys c.self.invariant) in
    rw (c.truncate.ensures, ← c.self.view_is, full_cut g.C.Ord.cmp keys c.args.at (is_key_list g.C.Ord.cmp keys c.self.invariant))
    (front_end (full_log keys) c.args.at row)

pub returns-clause-kept : goal.returns-clause-kept
returns-clause-kept g c index below =
    let keys = c.self.inside.key_log_ids.items in
    rw (c.truncate.ensures, ← c.self.view_is, full_cut g.C.Ord.cmp keys c.args.at (is_key_list g.C.Ord.cmp keys c.self.invariant))
    (front_reads (full_log keys) c.args.at index below)
