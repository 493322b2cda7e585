use Rattle.std.proofs.Common.{sym}
use Rattle.std.proofs.lemmas.Result.{err_from_is_err_and}
use Rattle.trace_checker.specs.Checker.{kept_by}
use Rattle.trace_checker.proofs.lemmas.CheckerStepLemmas.{apply_done, apply_refused, apply_uncommitted, apply_unled, exact_entries, keeps_at, with_servers}
use Rattle.trace_checker.proofs.lemmas.LoopLemmas.{within_len}
use Rattle.trace_checker.proofs.checker.Checker.applied.Goals as goal

pub returns-in-None-clause-answer : goal.returns-in-None-clause-answer
returns-in-None-clause-answer g c =
    λ exact es keeps. apply_unled _ exact es c.args.server c.args.term c.args.leader c.args.len (kept_by c.args.self.now)
    (c.in-None.ensures.place exact es keeps) keeps

pub returns-in_err-i-clause-answer : goal.returns-in_err-i-clause-answer
returns-in_err-i-clause-answer g c =
    let p = err_from_is_err_and c.from_residual.result c.from_residual.ensures.1 in
    rw (p.1, p.2) (λ exact es keeps. (tt, rw c.in_err-i.ensures.err keeps))

pub returns-in-Some-apply_rule-clause-answer : goal.returns-in-Some-apply_rule-clause-answer
returns-in-Some-apply_rule-clause-answer g c =
    λ exact es keeps. apply_refused _ exact es c.args.server c.args.term c.args.leader c.args.len
    (with_servers (kept_by c.args.self.now) c.server_at.new.servers.items) c.in_ok-i.i c.in-Some.j c.index.result.now
    c.index-2.result.now c.in-Some-apply_rule.rule
    c.in_ok-i.ensures.at.0 c.index.ensures (c.in-Some.ensures.place exact es keeps) c.index-2.ensures
    (keeps_at _ exact es c.args.server (kept_by c.args.self.now) c.server_at.new.servers.items c.in_ok-i.i c.in_ok-i.ensures.at keeps)
    (sym (c.in-Some-apply_rule.ensures (exact_entries _ exact) keeps.are_logs.distinct))

pub returns-then-not-any_knows-clause-answer : goal.returns-then-not-any_knows-clause-answer
returns-then-not-any_knows-clause-answer g c =
    λ exact es keeps. apply_uncommitted _ exact es c.args.server c.args.term c.args.leader c.args.len c.first-prefix.result
    (with_servers (kept_by c.args.self.now) c.server_at.new.servers.items) c.in_ok-i.i c.in-Some.j c.index.result.now
    c.index-2.result.now c.index-3.result.now c.any_knows.result
    c.in_ok-i.ensures.at.0 c.index.ensures (c.in-Some.ensures.place exact es keeps) c.index-2.ensures c.index-3.ensures
    (keeps_at _ exact es c.args.server (kept_by c.args.self.now) c.server_at.new.servers.items c.in_ok-i.i c.in_ok-i.ensures.at keeps)
    (sym (c.in-None-apply_rule.ensures (exact_entries _ exact) keeps.are_logs.distinct)) c.first-prefix.ensures.first
    (rw c.rank.ensures at (c.any_knows.ensures keeps.bounded (exact_entries _ exact) keeps.are_logs.distinct))
    c.if-not-any_knows.true

pub returns-clause-answer : goal.returns-clause-answer
returns-clause-answer g c =
    λ exact es keeps. apply_done _ exact es c.args.server c.args.term c.args.leader c.args.len c.first-prefix.result
    (with_servers (kept_by c.args.self.now) c.server_at.new.servers.items) c.in_ok-i.i c.in-Some.j c.index.result.now
    c.index-2.result.now c.index-3.result.now c.any_knows.result
    c.in_ok-i.ensures.at.0 c.index.ensures (c.in-Some.ensures.place exact es keeps) c.index-2.ensures c.index-3.ensures
    (keeps_at _ exact es c.args.server (kept_by c.args.self.now) c.server_at.new.servers.items c.in_ok-i.i c.in_ok-i.ensures.at keeps)
    (sym (c.in-None-apply_rule.ensures (exact_entries _ exact) keeps.are_logs.distinct)) c.first-prefix.ensures.first
    (rw c.rank.ensures at (c.any_knows.ensures keeps.bounded (exact_entries _ exact) keeps.are_logs.distinct))
    c.if-not-any_knows.false

pub index-requires : goal.index-requires
index-requires g c = within_len _ _ _ c.server_at.new.servers.ok.0 c.in_ok-i.ensures.within
