use Rattle.std.proofs.lemmas.Result.{on_ok_weaker}
use Rattle.trace_judge.specs.Numbers.{number_tests}
use Rattle.trace_judge.proofs.lemmas.RunLemmas.{fills_both}
use Rattle.trace_judge.proofs.judge.Judge.commit_by.Goals as goal

pub returns : goal.returns
returns c =
    on_ok_weaker c.commit_counted-2.result
    (λ more number_of first d says.
    fills_both number_tests number_of first d c.args.self.now c.commit_counted.new.self c.commit_counted-2.new.self
    (c.in_ok-commit_counted.ensures number_of first d says) (more number_of first d says)) c.commit_counted-2.ensures
