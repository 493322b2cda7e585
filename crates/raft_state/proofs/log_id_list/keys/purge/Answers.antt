use Rattle.std.proofs.Common.{◌≡◌, arith, length}
use Rattle.raft_state.proofs.lemmas.log_id_list.FullLogLemmas.{key_list_rises_zero}
use Rattle.raft_state.proofs.lemmas.log_id_list.CutLemmas.{purged_past, purged_none, purged_moved}
use Rattle.raft_state.proofs.lemmas.log_id_list.ExtendLemmas.{is_key_list}
use Rattle.raft_state.proofs.log_id_list.keys.purge.Goals as goal

pub returns-then-index-upto-clause-ok : goal.returns-then-index-upto-clause-ok
returns-then-index-upto-clause-ok g c =
    let len : length c.args.keys.now.items ≡ c.len-count.result = omega (arith, c.len-count.ensures, c.args.keys.now.ok.0) in
    rw c.truncate.ensures.items (purged_past c.args.keys.now.items c.args.upto c.index.result.now (omega (arith, len, c.if-count-eq0.false))
    (rw (← len) at c.index.ensures) c.if-index-upto.true)

pub count_to-covered-requires : goal.count_to-covered-requires
count_to-covered-requires g c = rw c.deref.ensures.value
    (key_list_rises_zero g.C.Ord.cmp c.args.keys.now.items (is_key_list g.C.Ord.cmp c.args.keys.now.items c.requires))

pub returns-then-covered-eq0-clause-ok : goal.returns-then-covered-eq0-clause-ok
returns-then-covered-eq0-clause-ok g c =
    let len : length c.args.keys.now.items ≡ c.len-count.result = omega (arith, c.len-count.ensures, c.args.keys.now.ok.0) in
    let count = rw c.deref.ensures.value at c.count_to-covered.ensures.count in
    purged_none c.args.keys.now.items c.args.upto c.index.result.now c.count_to-covered.result (omega (arith, len, c.if-count-eq0.false))
    (rw (← len) at c.index.ensures) c.if-index-upto.false count c.if-covered-eq0.true

pub returns-clause-ok : goal.returns-clause-ok
returns-clause-ok g c =
    let len : length c.args.keys.now.items ≡ c.len-count.result = omega (arith, c.len-count.ensures, c.args.keys.now.ok.0) in
    let count = rw c.deref.ensures.value at c.count_to-covered.ensures.count in
    let bound = rw c.deref.ensures.value at c.count_to-covered.ensures.bound in
    rw (c.truncate-2.ensures.items, c.rotate_left.ensures.items, c.new.ensures, ← len)
    (purged_moved c.args.keys.now.items c.args.upto c.index.result.now c.index-2.result.now c.count_to-covered.result
    (omega (arith, len, c.if-count-eq0.false)) (rw (← len) at c.index.ensures) c.if-index-upto.false count c.if-covered-eq0.false
    bound c.index-2.ensures)
