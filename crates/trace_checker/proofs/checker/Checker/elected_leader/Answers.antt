use Rattle.std.proofs.Common.{◌∙◌, sym}
use Rattle.trace_checker.specs.Checker.{kept_by}
use Rattle.trace_checker.proofs.lemmas.CheckerStepLemmas.{exact_entries, logs_by, noted_leader, other_leader, tallied_leader, unled}
use Rattle.trace_checker.proofs.checker.Checker.elected_leader.Goals as goal

pub returns-in-None-clause-place : goal.returns-in-None-clause-place
returns-in-None-clause-place g c =
    λ exact es keeps. (unled _ exact es c.args.term c.args.id (kept_by c.args.self.now)
    (sym (c.in-None.ensures.place exact.same_term keeps.placed)) keeps).0

pub returns-then-index-clause-place : goal.returns-then-index-clause-place
returns-then-index-clause-place g c =
    λ exact es keeps. noted_leader _ exact es c.args.term c.args.id (kept_by c.args.self.now) c.in-Some.j c.index.result.now
    (sym (c.in-Some.ensures.place exact.same_term keeps.placed)) c.index.ensures keeps c.if-index.true

pub returns-then-not-is_applied-clause-place : goal.returns-then-not-is_applied-clause-place
returns-then-not-is_applied-clause-place g c =
    λ exact es keeps. other_leader _ exact es c.args.term c.args.id (kept_by c.args.self.now) c.in-Some.j c.index.result.now
    (sym (c.in-Some.ensures.place exact.same_term keeps.placed)) c.index.ensures keeps c.if-index.false
    (sym c.is_applied.ensures ∙ c.if-not-is_applied.true)

pub returns-then-not-is_elected-clause-place : goal.returns-then-not-is_elected-clause-place
returns-then-not-is_elected-clause-place g c =
    λ exact es keeps. tallied_leader _ exact es c.args.term c.args.id (kept_by c.args.self.now) c.in-Some.j c.index-2.result.now
    c.is_elected.result (sym (c.in-Some.ensures.place exact.same_term keeps.placed)) c.index-2.ensures keeps
    (λ within distinct. c.is_elected.ensures (exact_entries _ exact)
    (logs_by (g.C.Configs.holds_config c.args.self.now.configs) c.args.self.now.logs keeps.are_logs) within distinct)
    ∙ c.if-not-is_elected.true

pub returns-clause-place : goal.returns-clause-place
returns-clause-place g c =
    λ exact es keeps. record {
      place = sym (c.in-Some.ensures.place exact.same_term keeps.placed);
      elected = tallied_leader _ exact es c.args.term c.args.id (kept_by c.args.self.now) c.in-Some.j c.index-2.result.now
          c.is_elected.result (sym (c.in-Some.ensures.place exact.same_term keeps.placed)) c.index-2.ensures keeps
          (λ within distinct. c.is_elected.ensures (exact_entries _ exact)
          (logs_by (g.C.Configs.holds_config c.args.self.now.configs) c.args.self.now.logs keeps.are_logs) within distinct)
          ∙ c.if-not-is_elected.false;
    }
