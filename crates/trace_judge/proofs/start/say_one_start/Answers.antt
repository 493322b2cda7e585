use Rattle.std.proofs.Common.{sym, ◌∙◌}
use Rattle.std.proofs.lemmas.Bool.{not-false}
use denote.Enum.Bare.{same_true}
use Rattle.safety_laws.specs.contracts.counting.ConfigsCount.{the_type}
use Rattle.trace_judge.specs.Inner.Table.{numbering}
use Rattle.trace_judge.proofs.lemmas.NameLemmas.{start_more}
use Rattle.trace_judge.proofs.lemmas.StartLemmas.{say_one_start}
use Rattle.trace_judge.proofs.start.say_one_start.Goals as goal

pub returns : goal.returns
returns c = λ same.
    let now = c.start_of.new.names in
    let new = c.start_of-2.new.names in
    let more = c.in_ok-others.ensures.learns in
    let table = more.1 (c.in_ok-configs.ensures.learns.1 c.new-names.ensures) in
    say_one_start (numbering new) table.apart c.args.line.now c.args.other.now c.in-Some.configs.items
    c.in-Some-2.others.items c.in-Some.first c.in-Some-2.other_first c.in-Some.counting c.in-Some-2.other_counting
    (start_more (numbering now) (numbering new) more.0 c.args.line.now c.in-Some.configs.items c.in-Some.first c.in-Some.counting
    (rw c.in-Some.is at c.in_ok-configs.ensures.says)) (rw c.in-Some-2.is at c.in_ok-others.ensures.says)
    c.if-first-other_first.false
    (same_true the_type tt c.in-Some.counting c.in-Some-2.other_counting (not-false _ (sym c.ne.ensures ∙ c.if-ne.false)))
    (sym c.eq.ensures ∙ same)
