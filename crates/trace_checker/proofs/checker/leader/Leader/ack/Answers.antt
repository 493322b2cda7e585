use Rattle.std.proofs.Common.{refl, sym}
use Rattle.std.proofs.lemmas.Result.{err_from_is_err_and}
use Rattle.trace_checker.specs.declared.checker.leader.Acked.{Acked}
use Rattle.trace_checker.proofs.lemmas.CheckerCodeLemmas.{acked_raised}
use Rattle.trace_checker.proofs.lemmas.LoopLemmas.{acked_push, found_within, within_len}
use Rattle.trace_checker.proofs.checker.leader.Leader.ack.Goals as goal

pub returns-in-Some-clause-acked : goal.returns-in-Some-clause-acked
returns-in-Some-clause-acked g c =
    acked_raised g.N.PartialEq.eq g.met.N.Eq.laws c.args.self.now.acked.items c.in-Some.i c.args.server
    c.args.len c.index.result.now c.index_mut.result.now c.max.result
    (rw c.deref.ensures.value at (sym c.in-Some.ensures))
    c.index.ensures c.index_mut.ensures.value c.max.ensures

pub returns-in_ok-push-in-None-clause-acked : goal.returns-in_ok-push-in-None-clause-acked
returns-in_ok-push-in-None-clause-acked g c =
    acked_push g.N.PartialEq.eq c.args.self.now.acked.items _ c.args.server c.args.len c.in_ok-push-in-None.ensures.items

pub index-requires : goal.index-requires
index-requires g c =
    within_len _ _ _ c.args.self.now.acked.ok.0
    (found_within (λ (a : Acked g.row.N.Denot). g.N.PartialEq.eq a.server c.args.server) c.args.self.now.acked.items
    c.in-Some.i (rw c.deref.ensures.value at (sym c.in-Some.ensures)))

pub returns-in_err-push-in-None : goal.returns-in_err-push-in-None
returns-in_err-push-in-None g c =
    let p = err_from_is_err_and c.from_residual.result c.from_residual.ensures.1 in
    rw p.1 (record {
      acked = tt;
      err_acked = c.in_err-push-in-None.ensures.items;
      rest = refl;
    })

pub index_mut-requires : goal.index_mut-requires
index_mut-requires g c =
    within_len _ _ _ c.args.self.now.acked.ok.0
    (found_within (λ (a : Acked g.row.N.Denot). g.N.PartialEq.eq a.server c.args.server) c.args.self.now.acked.items
    c.in-Some.i (rw c.deref.ensures.value at (sym c.in-Some.ensures)))
