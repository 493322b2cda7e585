use Rattle.std.proofs.Common.{◌∙◌, sym}
use Rattle.trace_checker.proofs.lemmas.CheckerStepLemmas.{starts}
use Rattle.trace_checker.proofs.checker.Checker.counting.Goals as goal

pub returns-clause-begins : goal.returns-clause-begins
returns-clause-begins g c =
    rw (c.new.ensures, c.new-2.ensures.items, c.new-3.ensures.items, c.new-4.ensures.empty, c.new-5.ensures)
    (starts _ (sym c.do_intersect.ensures ∙ c.if-not-do_intersect.false))
