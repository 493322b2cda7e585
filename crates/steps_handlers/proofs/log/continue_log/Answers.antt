use Rattle.std.proofs.lemmas.List.{drop_all}
use Rattle.steps_handlers.proofs.log.continue_log.Goals as goal

pub returns : goal.returns
returns g c = λ _.
    let end = drop_all c.loop-entry.entry-index c.args.entries.now c.loop-entry-test.false in rw end at c.loop-entry.invariant.rest
