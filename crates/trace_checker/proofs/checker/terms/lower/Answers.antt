use Rattle.std.proofs.Common.{◌∙◌, arith}
use Rattle.trace_checker.proofs.lemmas.TermsLemmas.{lowers_at, lowers_nothing}
use Rattle.trace_checker.proofs.checker.terms.lower.Goals as goal

pub returns-then-count-len : goal.returns-then-count-len
returns-then-count-len c =
    λ top rising. let at = rw c.deref.ensures.value at c.count_at_most-count.ensures in
    c.truncate.ensures.items
    ∙ lowers_at c.args.len top c.count_at_most-count.result c.args.kept.now.items c.index_mut.result.now rising
    (omega arith) c.index_mut.ensures.value
    (at.after c.count_at_most-count.result c.index_mut.result.now (omega arith) (omega arith))
    (at.before c.index_mut.result.now)

pub returns-else-count-len : goal.returns-else-count-len
returns-else-count-len c =
    λ top rising. let at = rw c.deref.ensures.value at c.count_at_most-count.ensures in
    lowers_nothing c.args.len top c.count_at_most-count.result c.args.kept.now.items (record { term = 0; len = 0 }) rising
    (omega (arith, at.within)) (at.before (record { term = 0; len = 0 }))
