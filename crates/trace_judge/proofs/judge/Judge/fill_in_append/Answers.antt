use Rattle.std.proofs.Common.{refl, sym, ◌∙◌}
use Rattle.std.proofs.lemmas.Result.{IfOk-weaker}
use Rattle.serde_json.specs.View.{view}
use Rattle.trace_judge.specs.Inner.Table.{numbering}
use Rattle.trace_judge.proofs.judge.Judge.fill_in_append.Goals as goal

pub returns-clause-restored : goal.returns-clause-restored
returns-clause-restored c =
    let old = c.args.self.now in
    IfOk-weaker c.restore.result _ _ (λ restored fills yes.
    fills yes (numbering old.names) old.first (view c.args.value.now)
    (c.if-not-is_named.ensures.yes refl, c.in-Some.ensures, c.in-Some-len.ensures)
    (sym c.number.ensures ∙ c.in-Some-number.is)) c.restore.ensures.restored
