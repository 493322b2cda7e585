use Rattle.std.proofs.Common.{◌≡◌, ◌-◌, sym, arith, ◌∙◌, get_or, length}
use Rattle.raft_state.proofs.lemmas.log_id_list.FullLogLemmas.{none_here, none_past, some_found, key_list_rises_zero}
use Rattle.raft_state.proofs.lemmas.log_id_list.ExtendLemmas.{is_key_list}
use Rattle.raft_state.proofs.log_id_list.keys.get.Goals as goal

pub count_to-covered-requires : goal.count_to-covered-requires
count_to-covered-requires g c = key_list_rises_zero _ _ (is_key_list g.C.Ord.cmp c.args.keys.now c.requires)

pub returns-then-covered-eq0 : goal.returns-then-covered-eq0
returns-then-covered-eq0 g c = sym (none_here _ _ _ (is_key_list g.C.Ord.cmp c.args.keys.now c.requires)
    (sym c.count_to-covered.ensures.count ∙ c.if-covered-eq0.true))

pub returns-then-key-index : goal.returns-then-key-index
returns-then-key-index g c =
    let place = c.index-keys-covered.is in
    let last : c.index-keys-covered.result ≡ get_or c.args.keys.now (length c.args.keys.now - 1) c.index-keys-covered.result =
    rw (← c.if-covered-keys.true) place in
    sym (none_past _ _ _ c.index-keys-covered.result (is_key_list g.C.Ord.cmp c.args.keys.now c.requires) (omega arith)
    (rw (← last) c.if-key-index.true))

pub returns : goal.returns
returns g c =
    rw c.new.ensures (sym (some_found _ _ _ _ c.index-keys-covered.result (is_key_list g.C.Ord.cmp c.args.keys.now c.requires)
    c.if-covered-eq0.false c.count_to-covered.ensures.bound c.count_to-covered.ensures.count c.index-keys-covered.is
    c.else-covered-keys.either))
