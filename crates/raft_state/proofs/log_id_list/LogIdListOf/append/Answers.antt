use Rattle.std.proofs.Common.{sym, ◌∙◌}
use Rattle.raft_state.proofs.lemmas.log_id_list.LastTwoLemmas.{last_two_of_full}
use Rattle.raft_state.proofs.lemmas.log_id_list.ListLemmas.{append_ends, append_fills, append_keeps, append_shares}
use Rattle.raft_state.proofs.lemmas.log_id_list.ExtendLemmas.{is_key_list}
use Rattle.raft_state.proofs.lemmas.log_id_list.FrontLemmas.{from_first}
use Rattle.raft_state.proofs.lemmas.log_id_list.KeptLemmas.{append_keeps_ids, last_found}
use Rattle.raft_state.specs.log_id_list.FullLog.{first_index, full_log}
use Rattle.raft_state.specs.Inner.KeyEdits.{keys_after_append}
use Rattle.raft_state.proofs.log_id_list.LogIdListOf.append.Goals as goal

pub invariant_of-self-2 : goal.invariant_of-self-2
invariant_of-self-2 g c =
    let can = rw (← c.self.view_is) at c.requires in
    rw c.in_ok-append.ensures.ok (append_keeps g.C.Ord.cmp g.C.PartialEq.eq g.met.C.Ord.total g.met.C.Ord.matches_eq g.met.C.Eq.laws
    c.self.inside.key_log_ids.items c.args.new_log_id (is_key_list g.C.Ord.cmp c.self.inside.key_log_ids.items c.self.invariant)
    can)

pub returns-clause-ok : goal.returns-clause-ok
returns-clause-ok g c =
    let can = rw (← c.self.view_is) at c.requires in
    rw (c.in_ok-append.ensures.ok, ← c.self.view_is)
    (append_fills g.C.Ord.cmp g.C.PartialEq.eq g.met.C.Ord.total g.met.C.Ord.matches_eq g.met.C.Eq.laws c.self.inside.key_log_ids.items
    c.args.new_log_id (is_key_list g.C.Ord.cmp c.self.inside.key_log_ids.items c.self.invariant) can)

pub returns-clause-last : goal.returns-clause-last
returns-clause-last g c =
    let can = rw (← c.self.view_is) at c.requires in
    rw c.in_ok-append.ensures.ok (append_ends g.C.Ord.cmp g.C.PartialEq.eq g.met.C.Ord.total g.met.C.Ord.matches_eq g.met.C.Eq.laws
    c.self.inside.key_log_ids.items c.args.new_log_id (is_key_list g.C.Ord.cmp c.self.inside.key_log_ids.items c.self.invariant)
    can)

pub returns-clause-last_two : goal.returns-clause-last_two
returns-clause-last_two g c =
    let can = rw (← c.self.view_is) at c.requires in
    rw (c.in_ok-append.ensures.ok, ← c.self.view_is)
    (append_shares g.C.Ord.cmp g.C.PartialEq.eq g.met.C.Ord.total g.met.C.Ord.matches_eq g.met.C.Eq.laws c.self.inside.key_log_ids.items
    c.args.new_log_id (is_key_list g.C.Ord.cmp c.self.inside.key_log_ids.items c.self.invariant) can)

pub returns-clause-kept : goal.returns-clause-kept
returns-clause-kept g c =
    let keys = c.self.inside.key_log_ids.items in
    let can = rw (← c.self.view_is) at c.requires in
    let new = append_fills g.C.Ord.cmp g.C.PartialEq.eq g.met.C.Ord.total g.met.C.Ord.matches_eq g.met.C.Eq.laws keys c.args.new_log_id
    (is_key_list g.C.Ord.cmp keys c.self.invariant) can in
    rw (c.in_ok-append.ensures.ok, ← c.self.view_is)
    (append_keeps_ids g.C.Ord.cmp g.C.PartialEq.eq (full_log keys)
    (full_log (keys_after_append g.C.PartialEq.eq keys c.args.new_log_id)) c.args.new_log_id new can)

pub returns-clause-own : goal.returns-clause-own
returns-clause-own g c =
    let keys = c.self.inside.key_log_ids.items in
    let can = rw (← c.self.view_is) at c.requires in
    let are = is_key_list g.C.Ord.cmp keys c.self.invariant in
    let new = keys_after_append g.C.PartialEq.eq keys c.args.new_log_id in
    let row = from_first g.C.Ord.cmp new (is_key_list g.C.Ord.cmp new
    (append_keeps g.C.Ord.cmp g.C.PartialEq.eq g.met.C.Ord.total g.met.C.Ord.matches_eq g.met.C.Eq.laws keys c.args.new_log_id are
    can)) in
    rw c.in_ok-append.ensures.ok (last_found (first_index (full_log new)) (full_log new) c.args.new_log_id row
    (append_ends g.C.Ord.cmp g.C.PartialEq.eq g.met.C.Ord.total g.met.C.Ord.matches_eq g.met.C.Eq.laws keys c.args.new_log_id are
    can))

pub returns-in_err-append-clause-no_memory : goal.returns-in_err-append-clause-no_memory
returns-in_err-append-clause-no_memory g c shared =
    let two = rw (← c.self.view_is) at shared in
    let none = c.in_err-append.ensures.no_memory
    (sym (last_two_of_full g.C.PartialEq.eq g.C.Ord.cmp c.self.inside.key_log_ids.items
    (is_key_list g.C.Ord.cmp c.self.inside.key_log_ids.items c.self.invariant)) ∙ two) in cc
