use Rattle.trace_judge.specs.Filled.{IsRestoredFor}
use Rattle.trace_judge.specs.Numbers.{number_tests}
use Rattle.trace_judge.proofs.lemmas.RunLemmas.{fills_after, stays_both, stays_still}
use Rattle.trace_judge.proofs.judge.Judge.restore.Goals as goal

pub returns-then-branch-clause-restored : goal.returns-then-branch-clause-restored
returns-then-branch-clause-restored c = λ yes number_of first d says ends.
    fills_after number_tests (IsRestoredFor number_of first d) c.args.self.now c.loop.self c.append_from.new.self c.loop.invariant
    (c.in_ok-append_from.ensures.restored c.if-branch.true number_of first d says ends)

pub loop-preserved : goal.loop-preserved
loop-preserved c =
    stays_both number_tests c.args.self.now c.loop.self c.append_from.new.self c.loop.invariant
    (c.in_ok-append_from.ensures.stays c.if-branch.false)

pub loop-init : goal.loop-init
loop-init c = stays_still number_tests c.args.self.now
