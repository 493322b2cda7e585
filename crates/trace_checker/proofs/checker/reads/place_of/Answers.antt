use Rattle.std.proofs.Common.{◌∙◌, sym, arith}
use Rattle.trace_checker.specs.declared.checker.server.Server.{Server}
use Rattle.trace_checker.proofs.lemmas.CheckerCodeLemmas.{none_to_end, search_ends, search_more}
use Rattle.trace_checker.proofs.checker.reads.place_of.Goals as goal

pub loop-i-preserved : goal.loop-i-preserved
loop-i-preserved g c =
    search_more (λ (s : Server g.row.N.Denot). g.N.PartialEq.eq s.id c.args.id) c.args.servers.now c.loop-i.i
    c.index-servers-i.result (omega arith) c.index-servers-i.is (sym c.eq.ensures ∙ c.if-eq.false)
    c.loop-i.invariant

pub returns-then-eq : goal.returns-then-eq
returns-then-eq g c =
    sym (search_ends (λ (s : Server g.row.N.Denot). g.N.PartialEq.eq s.id c.args.id) c.args.servers.now c.loop-i.i
    c.index-servers-i.result (omega arith) c.index-servers-i.is (sym c.eq.ensures ∙ c.if-eq.true)
    c.loop-i.invariant)

pub returns : goal.returns
returns g c =
    sym (none_to_end (λ (s : Server g.row.N.Denot). g.N.PartialEq.eq s.id c.args.id) c.args.servers.now c.loop-i.i
    (omega arith) c.loop-i.invariant)
