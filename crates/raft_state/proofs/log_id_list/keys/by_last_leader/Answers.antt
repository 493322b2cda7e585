use Rattle.std.proofs.Common.{◌≡◌, ◌-◌, ◌∙◌, sym, suc, length, arith, true, false}
use Rattle.std.proofs.lemmas.List.{take_rest}
use Rattle.raft_state.proofs.lemmas.log_id_list.CutLemmas.{fewer, last_two}
use Rattle.raft_state.proofs.log_id_list.keys.by_last_leader.Goals as goal

pub returns-then-count-lt2 : goal.returns-then-count-lt2
returns-then-count-lt2 g c = fewer g.C.PartialEq.eq c.args.keys.now c.if-count-lt2.true

pub returns-then-eq : goal.returns-then-eq
returns-then-eq g c =
    let ks = c.args.keys.now in
    let n : length ks ≡ suc (suc (length ks - 2)) = omega arith in
    let one : length ks - 1 ≡ suc (length ks - 2) = omega arith in
    take_rest ks (length ks - 2) ∙ sym (last_two g.C.PartialEq.eq ks (length ks - 2) c.index-keys-count.result c.index-keys-count-2.result
    true n (rw one at (sym c.eq.ensures ∙ c.if-eq.true)))

pub returns : goal.returns
returns g c =
    let ks = c.args.keys.now in
    let n : length ks ≡ suc (suc (length ks - 2)) = omega arith in
    let one : length ks - 1 ≡ suc (length ks - 2) = omega arith in
    take_rest ks (length ks - 1) ∙ rw one
    (sym (last_two g.C.PartialEq.eq ks (length ks - 2) c.index-keys-count.result c.index-keys-count-2.result false n
    (rw one at (sym c.eq.ensures ∙ c.if-eq.false))))
