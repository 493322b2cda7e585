use Rattle.std.proofs.Common.{◌<◌, ◌∙◌, ap, arith, length, nat_le, refl, sym}
use Rattle.trace_checker.specs.Checker.{kept_by}
use Rattle.trace_checker.specs.Inner.Logs.{log_at}
use Rattle.trace_checker.proofs.lemmas.CheckerStepLemmas.{logs_by}
use Rattle.trace_checker.proofs.lemmas.LoopLemmas.{found_within}
use Rattle.trace_checker.proofs.lemmas.ReadLemmas.{config_lens_read}
use Rattle.trace_checker.proofs.checker.Checker.config_lens.Goals as goal

pub returns : goal.returns
returns g c = λ exact es keeps.
    let logs = c.args.self.now.logs in
    let log = c.first-log.result in
    let holds = g.C.Configs.holds_config c.args.self.now.configs in
    let at = sym (c.in-Some.ensures.place exact.same_term keeps.placed) in
    let are = logs_by holds logs keeps.are_logs in
    let own = keeps.have_logs.of_leaders c.in-Some.j c.index.result.now (found_within _ _ _ at) c.index.ensures in
    let within : log < length logs.logs = omega (arith, own, c.first-log.ensures.earlier) in
    config_lens_read _ exact holds (λ d. refl) es c.args.term c.args.id (kept_by c.args.self.now) c.in-Some.j c.args.len
    c.index.result.now log c.len.result c.len-2.result at c.index.ensures c.first-log.ensures.first
    (λ m. (are.config log within).since m
    ∙ ap (λ n. nat_le n m) (sym (c.len.ensures.len ∙ ap (λ i. length (log_at logs i)) c.config-last.ensures)))
    (λ m. c.config_before-before.ensures.at_most_one holds are within m ∙ ap (λ n. nat_le n m) (sym c.len-2.ensures.len)) keeps
