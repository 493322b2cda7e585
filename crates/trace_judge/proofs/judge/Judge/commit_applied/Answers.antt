use Rattle.trace_judge.specs.Numbers.{number_tests}
use Rattle.trace_judge.proofs.lemmas.RunLemmas.{fills_both}
use Rattle.trace_judge.proofs.judge.Judge.commit_applied.Goals as goal

pub returns-in_ok-commit-2 : goal.returns-in_ok-commit-2
returns-in_ok-commit-2 c = λ number_of first d says.
    fills_both number_tests number_of first d c.args.self.now c.acknowledge.new.self c.commit-then-branch-2.new.self
    (fills_both number_tests number_of first d c.args.self.now c.commit.new.self c.acknowledge.new.self
    (c.in_ok-commit.ensures number_of first d says)
    (c.in_ok-acknowledge.ensures number_of first d says)) (c.in_ok-commit-2.ensures number_of first d says)

pub returns-else-branch-2 : goal.returns-else-branch-2
returns-else-branch-2 c = λ number_of first d says.
    fills_both number_tests number_of first d c.args.self.now c.commit.new.self c.acknowledge.new.self
    (c.in_ok-commit.ensures number_of first d says)
    (c.in_ok-acknowledge.ensures number_of first d says)
