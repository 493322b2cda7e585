use Rattle.std.proofs.Common.{◌∙◌, ap, sym}
use Rattle.trace_checker.specs.Inner.Logs.{last_entry, log_at}
use Rattle.trace_checker.proofs.lemmas.LogTreeLemmas.{last_push}
use Rattle.trace_checker.proofs.checker.logs.Logs.last.Goals as goal

pub returns-in-Some : goal.returns-in-Some
returns-in-Some g c =
    sym (ap last_entry c.in-Some.ensures.some.is
    ∙ last_push (log_at c.args.self.now c.in-Some.node.now.parent) c.in-Some.node.now.entry)
