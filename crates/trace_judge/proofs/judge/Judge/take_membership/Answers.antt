use Rattle.std.proofs.Common.{sym, ◌∙◌}
use Rattle.std.proofs.lemmas.Bool.{not-false}
use Rattle.std.proofs.lemmas.Result.{on_ok_weaker}
use Rattle.trace_checker.specs.Checker.{event_of as trace_event}
use Rattle.trace_judge.specs.Numbers.{number_tests}
use Rattle.trace_judge.proofs.lemmas.StartLemmas.{same_configs}
use Rattle.trace_judge.proofs.lemmas.RunLemmas.{says_same, takes_known}
use Rattle.trace_judge.proofs.judge.Judge.take_membership.Goals as goal

pub returns-else-ne-clause-taken : goal.returns-else-ne-clause-taken
returns-else-ne-clause-taken c =
    let e = trace_event c.args.event.now in
    let held = c.in-Some.held.now in
    let known = c.in-Some.ensures in
    let same = not-false _ (sym c.ne.ensures ∙ c.if-ne.false) in
    on_ok_weaker c.take_event.result (λ takes number_of d says. (
      (c.args.content, held),
      says_same number_of d e c.args.content held c.args.configs (same_configs number_of d held.items c.args.configs.items same) says,
      takes_known number_tests c.args.self.now c.take_event.new.self e (c.args.content, held) known takes,
    )) c.take_event.ensures.taken
