use Rattle.trace_checker.proofs.lemmas.ChildLemmas.{no_earlier}
use Rattle.trace_checker.proofs.checker.logs.Logs.child_with.Goals as goal

pub loop-i-init : goal.loop-i-init
loop-i-init g c =
    λ exact distinct within j h is. no_earlier c.args.self.now c.args.log j c.args.entry c.count-i-end.ensures.tree
    c.count-i-end.ensures.empty distinct within h is
