use Rattle.std.proofs.Common.{◌∙◌, None, Some, ap}
use Rattle.safety_laws.specs.Log.{Entry}
use Rattle.trace_checker.specs.Inner.Logs.{log_at}
use Rattle.trace_checker.proofs.lemmas.StateLemmas.{last_term_of}
use Rattle.trace_checker.proofs.checker.broken.last_term.Goals as goal

pub returns-in-Some : goal.returns-in-Some
returns-in-Some g c =
    c.rank.ensures ∙ ap (λ (e : Entry g.row.T.Denot g.row.D.Denot). g.T.Term.rank e.term) c.entry.view_is
    ∙ last_term_of g.T.Term.rank (log_at c.args.logs.now c.args.log) (Some c.in-Some.entry) c.in-Some.ensures

pub returns-in-None : goal.returns-in-None
returns-in-None g c = last_term_of g.T.Term.rank (log_at c.args.logs.now c.args.log) None c.in-None.ensures
