use Rattle.std.proofs.Common.{◌∙◌, sym, arith}
use Rattle.trace_checker.proofs.lemmas.TermsLemmas.{kept_before, kept_here}
use Rattle.trace_checker.proofs.checker.terms.kept_since.Goals as goal

pub returns-then-kept-i : goal.returns-then-kept-i
returns-then-kept-i c =
    sym (kept_here c.args.kept.now c.loop-i.i c.args.rank (record { term = 0; len = 0 }) (omega arith) (omega arith)
    c.if-kept-i.true)
    ∙ c.loop-i.invariant

pub loop-i-preserved : goal.loop-i-preserved
loop-i-preserved c =
    sym (kept_before c.args.kept.now c.loop-i.i c.args.rank (record { term = 0; len = 0 }) (omega arith) (omega arith)
    c.if-kept-i.false)
    ∙ c.loop-i.invariant
