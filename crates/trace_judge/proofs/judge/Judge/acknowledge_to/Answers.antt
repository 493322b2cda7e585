use Rattle.std.proofs.lemmas.Result.{on_ok_weaker}
use Rattle.trace_judge.proofs.judge.Judge.acknowledge_to.Goals as goal

pub returns : goal.returns
returns c =
    on_ok_weaker c.add.result (λ fills number_of first d says. fills number_of first d (λ es keeps. says)) c.add.ensures.fills
