use Rattle.std.proofs.Common.{sym, ◌∙◌}
use Rattle.serde_json.specs.View.{view}
use Rattle.trace_judge.specs.Names.{Number, Text}
use Rattle.trace_judge.proofs.lemmas.NameLemmas.{named}
use Rattle.trace_judge.proofs.names.Names.number_of.Goals as goal

pub returns-in-Some : goal.returns-in-Some
returns-in-Some c = named c.args.self.now (view c.args.value.now) (Text c.in-Some.text.now) c.copied.result
    (sym c.in-Some.ensures) (c.copied.ensures ∙ c.get.ensures.value)

pub returns-in_ok-as_u64-in-None : goal.returns-in_ok-as_u64-in-None
returns-in_ok-as_u64-in-None c = named c.args.self.now (view c.args.value.now) (Number c.in_ok-as_u64-in-None.field-0)
    c.stands_for.result (sym c.in_ok-as_u64-in-None.ensures) c.stands_for.ensures
