use Rattle.std.proofs.Common.{◌-◌, ◌∙◌, ◌<◌, Bool, ap, arith, length, subst, sym, take, ℕ}
use Rattle.trace_checker.specs.Inner.Logs.{AreLogs, log_at}
use Rattle.trace_checker.proofs.lemmas.ConfigBeforeLemmas.{IsConfigBefore, config_before}
use Rattle.trace_checker.proofs.checker.known.config_before.Goals as goal

is_before : (g : _) (c : goal.After-config g) (holds : g.row.D.Denot → Bool) → AreLogs holds c.args.logs.now
    → c.args.log < length c.args.logs.now.logs → IsConfigBefore holds c.args.logs.now c.args.log c.config.result
is_before g c holds are within =
    let t = c.args.logs.now in
    subst (λ (i : ℕ). IsConfigBefore holds t c.args.log i) (sym c.config.ensures)
    (config_before holds t c.args.log c.first.result c.saturating_sub.result are within
    (omega (arith, c.first.ensures.earlier, c.config-last.ensures))
    (c.saturating_sub.ensures ∙ ap (λ n. n - 1) (c.len.ensures.len ∙ ap (λ i. length (log_at t i)) c.config-last.ensures))
    (c.first.ensures.first ∙ ap (λ i. take c.saturating_sub.result (log_at t i)) c.config-last.ensures))

pub returns-clause-config : goal.returns-clause-config
returns-clause-config g c = λ holds are within. (is_before g c holds are within).earlier

pub returns-clause-at_most_one : goal.returns-clause-at_most_one
returns-clause-at_most_one g c = λ holds are within. (is_before g c holds are within).at_most_one

pub returns-clause-is : goal.returns-clause-is
returns-clause-is g c = λ holds are within. (is_before g c holds are within).is
