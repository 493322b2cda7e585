use Rattle.raft_state.proofs.lemmas.log_id_list.CutLemmas.{full_purged}
use Rattle.raft_state.proofs.lemmas.log_id_list.FrontLemmas.{from_first}
use Rattle.raft_state.proofs.lemmas.log_id_list.KeptLemmas.{purged_end, purged_ends, purged_reads}
use Rattle.raft_state.proofs.lemmas.log_id_list.ListLemmas.{purge_begins, purge_keeps}
use Rattle.raft_state.proofs.lemmas.log_id_list.ExtendLemmas.{is_key_list}
use Rattle.raft_state.specs.log_id_list.FullLog.{full_log}
use Rattle.raft_state.proofs.log_id_list.LogIdListOf.purge.Goals as goal

pub invariant_of-self-2 : goal.invariant_of-self-2
invariant_of-self-2 g c = rw c.in_ok-purge.ensures.ok
    (purge_keeps g.C.Ord.cmp g.C.PartialEq.eq g.met.C.Ord.total g.met.C.Ord.matches_eq g.met.C.Eq.laws c.self.inside.key_log_ids.items
    c.args.upto.now (is_key_list g.C.Ord.cmp c.self.inside.key_log_ids.items c.self.invariant))

pub returns-clause-ok : goal.returns-clause-ok
returns-clause-ok g c = rw (c.in_ok-purge.ensures.ok, ← c.self.view_is)
    (full_purged g.C.Ord.cmp c.self.inside.key_log_ids.items c.args.upto.now
    (is_key_list g.C.Ord.cmp c.self.inside.key_log_ids.items c.self.invariant))

pub returns-clause-first : goal.returns-clause-first
returns-clause-first g c =
    rw (c.in_ok-purge.ensures.ok, ← c.self.view_is)
    (purge_begins g.C.Ord.cmp g.C.PartialEq.eq g.met.C.Ord.total g.met.C.Ord.matches_eq g.met.C.Eq.laws c.self.inside.key_log_ids.items
    c.args.upto.now (is_key_list g.C.Ord.cmp c.self.inside.key_log_ids.items c.self.invariant))

pub returns-clause-last : goal.returns-clause-last
returns-clause-last g c =
    let keys = c.self.inside.key_log_ids.items in
    let are = is_key_list g.C.Ord.cmp keys c.self.invariant in
    rw (c.in_ok-purge.ensures.ok, ← c.self.view_is, full_purged g.C.Ord.cmp keys c.args.upto.now are)
    (purged_ends (full_log keys) c.args.upto.now (from_first g.C.Ord.cmp keys are))

pub returns-clause-end : goal.returns-clause-end
returns-clause-end g c =
    let keys = c.self.inside.key_log_ids.items in
    let are = is_key_list g.C.Ord.cmp keys c.self.invariant in
    rw (c.in_ok-purge.ensures.ok, ← c.self.view_is, full_purged g.C.Ord.cmp keys c.args.upto.now are)
    (purged_end (full_log keys) c.args.upto.now (from_first g.C.Ord.cmp keys are))

pub returns-clause-kept : goal.returns-clause-kept
returns-clause-kept g c index from below =
    let keys = c.self.inside.key_log_ids.items in
    let within = rw (← c.self.view_is) at below in
    let are = is_key_list g.C.Ord.cmp keys c.self.invariant in
    rw (c.in_ok-purge.ensures.ok, ← c.self.view_is, full_purged g.C.Ord.cmp keys c.args.upto.now are)
    (purged_reads (full_log keys) c.args.upto.now (from_first g.C.Ord.cmp keys are) index from within)
