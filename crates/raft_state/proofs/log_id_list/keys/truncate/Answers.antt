use Rattle.std.proofs.Common.{arith}
use Rattle.raft_state.proofs.lemmas.log_id_list.FullLogLemmas.{key_list_rises_zero}
use Rattle.raft_state.proofs.lemmas.log_id_list.CutLemmas.{all_keys_stay, cut_short, cut_moved}
use Rattle.raft_state.proofs.lemmas.log_id_list.ExtendLemmas.{is_key_list}
use Rattle.raft_state.proofs.log_id_list.keys.truncate.Goals as goal

pub count_to-kept-requires : goal.count_to-kept-requires
count_to-kept-requires g c = rw c.deref.ensures.value
    (key_list_rises_zero g.C.Ord.cmp c.args.keys.now.items (is_key_list g.C.Ord.cmp c.args.keys.now.items c.requires))

pub returns-then-kept-len : goal.returns-then-kept-len
returns-then-kept-len g c =
    let count = rw c.deref.ensures.value at c.count_to-kept.ensures.count in
    all_keys_stay c.args.keys.now.items c.args.at c.count_to-kept.result c.if-at-eq0.false count
    (omega (arith, c.if-kept-len.true, c.len.ensures, c.args.keys.now.ok.0))

pub returns-then-last-end : goal.returns-then-last-end
returns-then-last-end g c =
    let count = rw c.deref.ensures.value at c.count_to-kept.ensures.count in
    let bound = rw c.deref.ensures.value at c.count_to-kept.ensures.bound in
    rw (c.truncate.ensures.items, c.new.ensures)
    (cut_moved c.args.keys.now.items c.args.at c.count_to-kept.result c.index-last.result.now c.if-at-eq0.false count
    c.if-kept-eq0.false (omega (arith, bound, c.if-kept-len.false, c.len.ensures, c.args.keys.now.ok.0)) c.index-last.ensures
    c.if-last-end.true)

pub returns-else-last-end : goal.returns-else-last-end
returns-else-last-end g c =
    let count = rw c.deref.ensures.value at c.count_to-kept.ensures.count in
    let bound = rw c.deref.ensures.value at c.count_to-kept.ensures.bound in
    rw c.truncate-else-last-end.ensures.items
    (cut_short c.args.keys.now.items c.args.at c.count_to-kept.result c.index-last.result.now c.if-at-eq0.false count
    c.if-kept-eq0.false (omega (arith, bound, c.if-kept-len.false, c.len.ensures, c.args.keys.now.ok.0)) c.index-last.ensures
    c.if-last-end.false)
