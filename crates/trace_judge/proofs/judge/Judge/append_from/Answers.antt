use Rattle.std.specs.Bool.{IsTrue}
use Rattle.std.proofs.Common.{Some, ap, sym, ◌∙◌}
use Rattle.trace_checker.specs.Checker.{event_of as trace_event}
use Rattle.trace_judge.specs.Inner.Taken.{FillsRestarted}
use Rattle.trace_judge.specs.Numbers.{number_tests}
use Rattle.trace_judge.proofs.lemmas.FillLemmas.{restores}
use Rattle.trace_judge.proofs.lemmas.RunLemmas.{ok_then}
use Rattle.trace_judge.proofs.judge.Judge.append_from.Goals as goal

pub returns-in-Some-2-clause-restored : goal.returns-in-Some-2-clause-restored
returns-in-Some-2-clause-restored c =
    let e = trace_event c.in-Some-2.event in
    ok_then c.add.result
    (λ restored. IsTrue restored →
    FillsRestarted number_tests c.args.server c.args.len c.args.last_term c.args.self.now c.add.new.self)
    (λ restored fills yes number_of first d says ends.
    fills number_of first d (λ es keeps.
    restores number_of first d es e c.args.server c.args.term c.args.leader c.args.len
    (rw c.in-Some-2.is at c.in_ok-event.ensures.up_to)
    (rw c.in-Some-2.is at (c.in_ok-event.ensures.missing keeps.exact es keeps.keeps)) says (
      c.in-Some.entry,
      sym (c.leader_entry.ensures keeps.exact es keeps.keeps) ∙ c.in-Some.is,
      ends ∙ ap Some (sym c.if-entry-last_term.true ∙ ap (λ e. e.term) c.entry.view_is),
    )))
    c.add.ensures.restores
