use Rattle.std.proofs.Common.{◌∙◌, None, ap, arith, refl, sym}
use Rattle.safety_laws.specs.Configs.{effective_config}
use Rattle.trace_checker.specs.Checker.{kept_by}
use Rattle.trace_checker.specs.Inner.CheckerState.{config_in}
use Rattle.trace_checker.proofs.lemmas.CheckerStepLemmas.{commit_done, commit_refused, commit_uncounted, commit_unled, exact_entries, logs_by}
use Rattle.trace_checker.proofs.lemmas.LoopLemmas.{found_within}
use Rattle.trace_checker.proofs.lemmas.NotedLemmas.{commit_tests, noted_have, noted_known}
use Rattle.trace_checker.proofs.checker.Checker.committed.Goals as goal

pub returns-in-None-clause-answer : goal.returns-in-None-clause-answer
returns-in-None-clause-answer g c =
    λ exact es keeps. commit_unled _ exact es c.args.term c.args.leader c.args.len c.args.counted_at (kept_by c.args.self.now)
    (c.in-None.ensures.place exact es keeps) keeps

pub returns-in-Some-commit_rule-clause-answer : goal.returns-in-Some-commit_rule-clause-answer
returns-in-Some-commit_rule-clause-answer g c =
    λ exact es keeps. commit_refused _ exact es c.args.term c.args.leader c.args.len c.args.counted_at (kept_by c.args.self.now)
    c.in-Some.j c.index.result.now c.in-Some-commit_rule.rule
    (c.in-Some.ensures.place exact es keeps) c.index.ensures keeps _ _
    (commit_tests _ exact es c.args.term c.args.leader c.args.len c.args.counted_at (kept_by c.args.self.now)
    c.in-Some.j
    c.index.result.now (g.C.Configs.holds_config c.args.self.now.configs) (λ d. refl)
    (c.in-Some.ensures.place exact es keeps).place c.index.ensures keeps)
    (sym (c.in-Some-commit_rule.ensures (g.C.Configs.holds_config c.args.self.now.configs)
    (exact_entries _ exact)
    (logs_by (g.C.Configs.holds_config c.args.self.now.configs) c.args.self.now.logs keeps.are_logs)
    (keeps.have_logs.of_leaders c.in-Some.j c.index.result.now
    (found_within _ _ _ (c.in-Some.ensures.place exact es keeps).place) c.index.ensures)))

pub returns-then-not-is_quorum-clause-answer : goal.returns-then-not-is_quorum-clause-answer
returns-then-not-is_quorum-clause-answer g c =
    λ exact es keeps. commit_uncounted _ exact es c.args.term c.args.leader c.args.len c.args.counted_at
    (kept_by c.args.self.now) c.in-Some.j
    c.index.result.now c.index-2.result.now c.index-3.result.now c.in_ok-servers.servers.items
    c.config_content-config.result c.is_quorum.result
    (c.in-Some.ensures.place exact es keeps) c.index.ensures c.index-2.ensures c.index-3.ensures
    keeps _ _
    (commit_tests _ exact es c.args.term c.args.leader c.args.len c.args.counted_at (kept_by c.args.self.now)
    c.in-Some.j
    c.index.result.now (g.C.Configs.holds_config c.args.self.now.configs) (λ d. refl)
    (c.in-Some.ensures.place exact es keeps).place c.index.ensures keeps)
    (sym (c.in-None-commit_rule.ensures (g.C.Configs.holds_config c.args.self.now.configs)
    (exact_entries _ exact)
    (logs_by (g.C.Configs.holds_config c.args.self.now.configs) c.args.self.now.logs keeps.are_logs)
    (keeps.have_logs.of_leaders c.in-Some.j c.index.result.now
    (found_within _ _ _ (c.in-Some.ensures.place exact es keeps).place) c.index.ensures))) c.in_ok-servers.ensures.servers
    (c.config_content-config.ensures (g.C.Configs.holds_config c.args.self.now.configs)
    (logs_by (g.C.Configs.holds_config c.args.self.now.configs) c.args.self.now.logs keeps.are_logs)
    (let own = keeps.have_logs.of_leaders c.in-Some.j c.index-3.result.now
    (found_within _ _ _ (c.in-Some.ensures.place exact es keeps).place)
    c.index-3.ensures in
    omega (arith, own, c.first.ensures.earlier))
    ∙ ap (λ x. effective_config (config_in (g.C.Configs.holds_config c.args.self.now.configs)) None x) c.first.ensures.first)
    (rw c.deref.ensures.value at c.is_quorum.ensures c.in_ok-servers.ensures.distinct) c.if-not-is_quorum.true

pub returns-clause-answer : goal.returns-clause-answer
returns-clause-answer g c =
    λ exact es keeps. rw c.in_ok-note.ensures.rest (commit_done _ exact es c.args.term c.args.leader c.args.len
    c.args.counted_at (kept_by c.args.self.now) c.in-Some.j
    c.index.result.now c.index-2.result.now c.index-3.result.now c.index_mut.result.now c.commit.new.self c.in_ok-servers.servers.items
    c.config_content-config.result c.is_quorum.result
    (c.in-Some.ensures.place exact es keeps) c.index.ensures c.index-2.ensures c.index-3.ensures
    (rw c.in_ok-note.ensures.rest at c.index_mut.ensures.value) keeps _ _
    (commit_tests _ exact es c.args.term c.args.leader c.args.len c.args.counted_at (kept_by c.args.self.now)
    c.in-Some.j
    c.index.result.now (g.C.Configs.holds_config c.args.self.now.configs) (λ d. refl)
    (c.in-Some.ensures.place exact es keeps).place c.index.ensures keeps)
    (sym (c.in-None-commit_rule.ensures (g.C.Configs.holds_config c.args.self.now.configs)
    (exact_entries _ exact)
    (logs_by (g.C.Configs.holds_config c.args.self.now.configs) c.args.self.now.logs keeps.are_logs)
    (keeps.have_logs.of_leaders c.in-Some.j c.index.result.now
    (found_within _ _ _ (c.in-Some.ensures.place exact es keeps).place) c.index.ensures))) c.in_ok-servers.ensures.servers
    (c.config_content-config.ensures (g.C.Configs.holds_config c.args.self.now.configs)
    (logs_by (g.C.Configs.holds_config c.args.self.now.configs) c.args.self.now.logs keeps.are_logs)
    (let own = keeps.have_logs.of_leaders c.in-Some.j c.index-3.result.now
    (found_within _ _ _ (c.in-Some.ensures.place exact es keeps).place)
    c.index-3.ensures in
    omega (arith, own, c.first.ensures.earlier))
    ∙ ap (λ x. effective_config (config_in (g.C.Configs.holds_config c.args.self.now.configs)) None x) c.first.ensures.first)
    (rw c.deref.ensures.value at c.is_quorum.ensures c.in_ok-servers.ensures.distinct) c.if-not-is_quorum.false
    c.commit.ensures _ (rw c.in_ok-note.ensures.rest at c.max-self.ensures) c.note.new.self.commits
    (noted_have _ exact es c.args.len c.args.counted_at (kept_by c.args.self.now) c.in-Some.j c.index.result.now
    c.note.new.self.commits (found_within _ _ _ (c.in-Some.ensures.place exact es keeps).place) c.index.ensures keeps
    c.in_ok-note.ensures.noted)
    (noted_known _ exact es c.args.term c.args.leader c.args.len c.args.counted_at (kept_by c.args.self.now) c.in-Some.j
    c.index.result.now c.note.new.self.commits (c.in-Some.ensures.place exact es keeps).place c.index.ensures keeps
    c.in_ok-note.ensures.noted))
