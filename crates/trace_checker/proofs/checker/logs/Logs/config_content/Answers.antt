use Rattle.std.proofs.Common.{◌∙◌, None, Some, ap}
use Rattle.safety_laws.specs.Log.{Entry}
use Rattle.trace_checker.proofs.lemmas.ChildLemmas.{config_found}
use Rattle.trace_checker.proofs.checker.logs.Logs.config_content.Goals as goal

pub returns-in-Some : goal.returns-in-Some
returns-in-Some g c =
    let content = ap (λ (e : Entry g.row.T.Denot g.row.D.Denot). Some e.content) c.entry.view_is in
    λ holds are within. content
    ∙ config_found holds c.args.self.now c.args.log c.config.result (Some c.in-Some.entry) are within c.config.ensures c.in-Some.ensures

pub returns-in-None : goal.returns-in-None
returns-in-None g c =
    λ holds are within. config_found holds c.args.self.now c.args.log c.config.result None are within c.config.ensures
    c.in-None.ensures
