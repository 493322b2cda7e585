use Rattle.trace_judge.specs.Numbers.{number_tests}
use Rattle.trace_judge.proofs.lemmas.RunLemmas.{fills_both, fills_nothing}
use Rattle.trace_judge.proofs.judge.Judge.acknowledge.Goals as goal

pub loop-number-init : goal.loop-number-init
loop-number-init c = λ number_of first d says. fills_nothing number_tests number_of first d c.args.self.now

pub returns-then-branch : goal.returns-then-branch
returns-then-branch c = λ number_of first d says.
    fills_both number_tests number_of first d c.args.self.now c.loop-number.self c.acknowledge_to.new.self
    (c.loop-number.invariant number_of first d says) (c.in_ok-acknowledge_to.ensures number_of first d says)

pub loop-number-preserved : goal.loop-number-preserved
loop-number-preserved c = λ number_of first d says.
    fills_both number_tests number_of first d c.args.self.now c.loop-number.self c.acknowledge_to.new.self
    (c.loop-number.invariant number_of first d says) (c.in_ok-acknowledge_to.ensures number_of first d says)
