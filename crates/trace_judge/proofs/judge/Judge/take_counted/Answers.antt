use Rattle.std.proofs.Common.{None, refl}
use Rattle.trace_checker.specs.Checker.{event_of as trace_event}
use Rattle.trace_judge.specs.Inner.Table.{numbering}
use Rattle.trace_judge.specs.Numbers.{number_tests}
use Rattle.trace_judge.proofs.lemmas.RunLemmas.{takes_after}
use Rattle.trace_judge.proofs.judge.Judge.take_counted.Goals as goal

pub returns-in-Ok-take_event-clause-taken : goal.returns-in-Ok-take_event-clause-taken
returns-in-Ok-take_event-clause-taken c =
    let old = c.args.self.now in
    let other = trace_event c.in-Some.other in
    let refused = c.in-Err.ensures.broken (c.if-not-is_of_config.ensures refl) in
    λ says fits says_none.
    let too = c.in-Some.ensures (numbering old.names) old.first says in (
      other,
      (
        None,
        too.0,
        λ es keeps. too.2 es,
        too.1,
        takes_after number_tests old c.take_event.new.self c.take_event-2.new.self other None refused
            c.in-Ok-take_event.ensures.taken,
      ),
    )
