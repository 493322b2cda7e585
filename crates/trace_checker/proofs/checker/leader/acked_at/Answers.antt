use Rattle.std.proofs.Common.{◌∙◌, sym, arith}
use Rattle.trace_checker.specs.declared.checker.leader.Acked.{Acked}
use Rattle.trace_checker.proofs.lemmas.CheckerCodeLemmas.{none_to_end, search_ends, search_more}
use Rattle.trace_checker.proofs.checker.leader.acked_at.Goals as goal

pub loop-i-preserved : goal.loop-i-preserved
loop-i-preserved g c =
    search_more (λ (a : Acked g.row.N.Denot). g.N.PartialEq.eq a.server c.args.server) c.args.acked.now c.loop-i.i
    c.index-acked-i.result c.loop-i-test.true c.index-acked-i.is (sym c.eq.ensures ∙ c.if-eq.false)
    c.loop-i.invariant

pub returns-then-eq : goal.returns-then-eq
returns-then-eq g c =
    sym (search_ends (λ (a : Acked g.row.N.Denot). g.N.PartialEq.eq a.server c.args.server) c.args.acked.now c.loop-i.i
    c.index-acked-i.result c.loop-i-test.true c.index-acked-i.is (sym c.eq.ensures ∙ c.if-eq.true)
    c.loop-i.invariant)

pub returns : goal.returns
returns g c =
    sym (none_to_end (λ (a : Acked g.row.N.Denot). g.N.PartialEq.eq a.server c.args.server) c.args.acked.now c.loop-i.i
    (omega arith) c.loop-i.invariant)
