use Rattle.std.proofs.Common.{◌∙◌, ap, refl, sym}
use Rattle.std.proofs.lemmas.Result.{err_from_is_err_and}
use Rattle.safety_laws.specs.Log.{Entry}
use Rattle.trace_checker.specs.Checker.{kept_by}
use Rattle.trace_checker.proofs.lemmas.CheckerStepLemmas.{exact_entries, logs_by, some_config, write_done, write_refused, write_unled}
use Rattle.trace_checker.proofs.lemmas.LoopLemmas.{found_within}
use Rattle.trace_checker.proofs.checker.Checker.wrote.Goals as goal

pub returns-in-None-clause-answer : goal.returns-in-None-clause-answer
returns-in-None-clause-answer g c =
    λ exact es keeps. write_unled _ exact es c.args.term c.args.leader c.args.entry (kept_by c.args.self.now)
    (c.in-None.ensures.place exact es keeps) keeps

pub returns-in-Some-write_rule-clause-answer : goal.returns-in-Some-write_rule-clause-answer
returns-in-Some-write_rule-clause-answer g c =
    λ exact es keeps. write_refused _ exact es c.args.term c.args.leader c.args.entry (kept_by c.args.self.now)
    c.in-Some.j c.index.result.now c.in-Some-write_rule.rule (g.C.Configs.holds_config c.args.self.now.configs) (λ d. refl) refl
    (c.in-Some.ensures.place exact es keeps) c.index.ensures keeps
    (sym (c.in-Some-write_rule.ensures (logs_by (g.C.Configs.holds_config c.args.self.now.configs) c.args.self.now.logs keeps.are_logs)
    (keeps.have_logs.of_leaders c.in-Some.j c.index.result.now
    (found_within _ _ _ (c.in-Some.ensures.place exact es keeps).place) c.index.ensures)))

pub returns-in_err-log-clause-answer : goal.returns-in_err-log-clause-answer
returns-in_err-log-clause-answer g c =
    let p = err_from_is_err_and c.from_residual.result c.from_residual.ensures.1 in
    rw (p.1, p.2) (λ exact es keeps. (tt, rw c.in_err-log.ensures.err keeps))

pub returns-clause-answer : goal.returns-clause-answer
returns-clause-answer g c =
    λ exact es keeps. write_done _ exact es c.args.term c.args.leader c.args.entry (kept_by c.args.self.now)
    c.in-Some.j c.child.new.self c.index.result.now c.index-2.result.now c.index_mut.result.now c.write.new.self
    (g.C.Configs.holds_config c.args.self.now.configs) (λ d. refl) refl
    (c.in-Some.ensures.place exact es keeps) c.index.ensures
    c.index-2.ensures c.index_mut.ensures.value keeps
    (sym (c.in-None-write_rule.ensures (logs_by (g.C.Configs.holds_config c.args.self.now.configs) c.args.self.now.logs keeps.are_logs)
    (keeps.have_logs.of_leaders c.in-Some.j c.index.result.now
    (found_within _ _ _ (c.in-Some.ensures.place exact es keeps).place) c.index.ensures)))
    c.in_ok-log.log (c.in_ok-log.ensures.child _ (exact_entries _ exact) keeps.are_logs
    (keeps.have_logs.of_leaders c.in-Some.j c.index-2.result.now
    (found_within _ _ _ (c.in-Some.ensures.place exact es keeps).place) c.index-2.ensures)
    (c.holds_config-is_config.ensures
    ∙ ap (λ (e : Entry g.row.T.Denot g.row.D.Denot). g.C.Configs.holds_config c.args.self.now.configs e.content) c.entry.view_is
    ∙ sym (some_config (g.C.Configs.holds_config c.args.self.now.configs) c.args.entry.content)))
    c.write.ensures
