use Rattle.std.proofs.Common.{◌≡◌, ◌-◌, suc, sym, ap, arith, ◌∙◌, length, get_or, set}
use Rattle.raft_state.proofs.lemmas.log_id_list.AppendLemmas.{gives_way, comes_after}
use Rattle.raft_state.proofs.lemmas.log_id_list.LastTwoLemmas.{last_two_differ}
use Rattle.raft_state.proofs.log_id_list.keys.append.Goals as goal
use Rattle.raft_state.proofs.log_id_list.keys.append.Goals.{else-count-ge2-via-then-count-ge2+else-eq, else-count-ge2-via-else-count-ge2}

pub returns-then-eq-clause-ok : goal.returns-then-eq-clause-ok
returns-then-eq-clause-ok g c =
    let n = c.len-count.result - 2 in
    let len : length c.args.keys.now.items ≡ suc (suc n) = omega (arith, c.len-count.ensures, c.args.keys.now.ok.0) in
    let place : c.len-count.result - 1 ≡ suc n = omega arith in
    let y = c.index-then-count-ge2.result.now in
    ap (λ at. set c.args.keys.now.items at c.args.id) place
    ∙ gives_way g.C.PartialEq.eq g.met.C.Eq.laws.refl c.args.keys.now.items n c.args.id c.index.result.now y len c.index.ensures
    (rw place at c.index-then-count-ge2.ensures) (sym c.eq.ensures ∙ c.if-eq.true)

pub returns-in_ok-push-clause-ok : goal.returns-in_ok-push-clause-ok
returns-in_ok-push-clause-ok g c =
    c.in_ok-push.ensures.items ∙ comes_after g.C.PartialEq.eq g.met.C.Eq.laws.refl c.args.keys.now.items c.args.id
    (λ n len. elim c.else-count-ge2.branch [
      | else-count-ge2-via-then-count-ge2+else-eq w ↦
          (let at1 : w.index-then-count-ge2.result.now ≡ get_or c.args.keys.now.items (suc n) w.index-then-count-ge2.result.now =
          (let p : c.len-count.result - 1 ≡ suc n = omega (arith, c.len-count.ensures, c.args.keys.now.ok.0) in
          rw p at w.index-then-count-ge2.ensures) in
          let at2 : w.index.result.now ≡ get_or c.args.keys.now.items n w.index.result.now =
          (let p : c.len-count.result - 2 ≡ n = omega (arith, c.len-count.ensures, c.args.keys.now.ok.0) in rw p at w.index.ensures) in
          (w.index.result.now, w.index-then-count-ge2.result.now, at2, at1, sym w.eq.ensures ∙ w.if-eq.false))
      | else-count-ge2-via-else-count-ge2 w ↦ absurd (omega (arith, c.len-count.ensures, c.args.keys.now.ok.0))
    ])

pub returns-in_err-push-clause-no_memory : goal.returns-in_err-push-clause-no_memory
returns-in_err-push-clause-no_memory g c shared =
    let none = last_two_differ g.C.PartialEq.eq g.met.C.Eq.laws.refl c.args.keys.now.items
    (λ n len. elim c.else-count-ge2.branch [
      | else-count-ge2-via-then-count-ge2+else-eq w ↦
          (let at1 : w.index-then-count-ge2.result.now ≡ get_or c.args.keys.now.items (suc n) w.index-then-count-ge2.result.now =
          (let p : c.len-count.result - 1 ≡ suc n = omega (arith, c.len-count.ensures, c.args.keys.now.ok.0) in
          rw p at w.index-then-count-ge2.ensures) in
          let at2 : w.index.result.now ≡ get_or c.args.keys.now.items n w.index.result.now =
          (let p : c.len-count.result - 2 ≡ n = omega (arith, c.len-count.ensures, c.args.keys.now.ok.0) in rw p at w.index.ensures) in
          (w.index.result.now, w.index-then-count-ge2.result.now, at2, at1, sym w.eq.ensures ∙ w.if-eq.false))
      | else-count-ge2-via-else-count-ge2 w ↦ absurd (omega (arith, c.len-count.ensures, c.args.keys.now.ok.0))
    ])
    in cc
