use Rattle.std.proofs.Common.{sym}
use Rattle.std.proofs.lemmas.Result.{err_from_is_err_and}
use Rattle.trace_checker.specs.Checker.{kept_by}
use Rattle.trace_checker.proofs.lemmas.CheckerStepLemmas.{keeps_at, restart_done, restart_refused, with_servers}
use Rattle.trace_checker.proofs.checker.Checker.restarted.Goals as goal

pub returns-in_err-i-clause-answer : goal.returns-in_err-i-clause-answer
returns-in_err-i-clause-answer g c =
    let p = err_from_is_err_and c.from_residual.result c.from_residual.ensures.1 in
    rw (p.1, p.2) (λ exact es keeps. (tt, rw c.in_err-i.ensures.err keeps))

pub returns-in-Some-clause-answer : goal.returns-in-Some-clause-answer
returns-in-Some-clause-answer g c =
    λ exact es keeps. restart_refused _ exact es c.args.server (with_servers (kept_by c.args.self.now) c.server_at.new.servers.items)
    c.in_ok-i.i c.args.len c.index.result.now c.in-Some.rule c.in_ok-i.ensures.at.0 c.index.ensures
    (keeps_at _ exact es c.args.server (kept_by c.args.self.now) c.server_at.new.servers.items c.in_ok-i.i c.in_ok-i.ensures.at keeps)
    (sym c.in-Some.ensures)

pub returns-clause-answer : goal.returns-clause-answer
returns-clause-answer g c =
    λ exact es keeps. restart_done _ exact es c.args.server (with_servers (kept_by c.args.self.now) c.server_at.new.servers.items)
    c.in_ok-i.i c.args.len c.index.result.now c.index_mut-restarted.result.now c.restart.new.self
    c.in_ok-i.ensures.at.0 c.index.ensures c.index_mut-restarted.ensures.value
    (keeps_at _ exact es c.args.server (kept_by c.args.self.now) c.server_at.new.servers.items c.in_ok-i.i c.in_ok-i.ensures.at keeps)
    (sym c.in-None.ensures) c.first.result c.first.ensures.first c.first.ensures.earlier
    c.restart.ensures.term c.restart.ensures.kept c.restart.ensures.rest
