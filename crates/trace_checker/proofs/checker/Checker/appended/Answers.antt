use Rattle.std.proofs.Common.{◌+◌, ap, sym}
use Rattle.std.proofs.lemmas.Result.{err_from_is_err_and}
use Rattle.trace_checker.specs.Checker.{kept_by}
use Rattle.trace_checker.proofs.lemmas.CheckerStepLemmas.{append_done, append_refused, append_unled, exact_entries, keeps_at, same_server, with_servers}
use Rattle.trace_checker.proofs.lemmas.LoopLemmas.{within_len}
use Rattle.trace_checker.proofs.checker.Checker.appended.Goals as goal

pub returns-in-None-clause-answer : goal.returns-in-None-clause-answer
returns-in-None-clause-answer g c =
    λ exact es keeps. append_unled _ exact es c.args.server c.args.term c.args.leader c.args.keep c.args.entries.now
    (kept_by c.args.self.now) (c.in-None.ensures.place exact es keeps) keeps

pub returns-in_err-i-clause-answer : goal.returns-in_err-i-clause-answer
returns-in_err-i-clause-answer g c =
    let p = err_from_is_err_and c.from_residual.result c.from_residual.ensures.1 in
    rw (p.1, p.2) (λ exact es keeps. (tt, rw c.in_err-i.ensures.err keeps))

pub returns-in-Some-append_rule-clause-answer : goal.returns-in-Some-append_rule-clause-answer
returns-in-Some-append_rule-clause-answer g c =
    λ exact es keeps. append_refused _ exact es c.args.server c.args.term c.args.leader c.args.keep c.args.entries.now
    (with_servers (kept_by c.args.self.now) c.server_at.new.servers.items) c.in_ok-i.i c.in-Some.j c.index.result.now
    c.index-2.result.now c.in-Some-append_rule.rule
    c.in_ok-i.ensures.at.0 c.index.ensures (c.in-Some.ensures.place exact es keeps) c.index-2.ensures
    (keeps_at _ exact es c.args.server (kept_by c.args.self.now) c.server_at.new.servers.items c.in_ok-i.i c.in_ok-i.ensures.at keeps)
    (rw c.rank-rank.ensures at (sym (c.in-Some-append_rule.ensures.rule (exact_entries _ exact) keeps.are_logs.distinct)))

pub returns-in_err-append-clause-answer : goal.returns-in_err-append-clause-answer
returns-in_err-append-clause-answer g c =
    let p = err_from_is_err_and c.from_residual-in_err-append.result c.from_residual-in_err-append.ensures.1 in
    rw (p.1, p.2) (λ exact es keeps. (
      tt,
      same_server _ exact es (with_servers (kept_by c.args.self.now) c.server_at.new.servers.items) c.args.server c.in_ok-i.i
          c.index_mut-follower.result.now c.append.new.self c.in_ok-i.ensures.at.0 c.index_mut-follower.ensures.value
          (keeps_at _ exact es c.args.server (kept_by c.args.self.now) c.server_at.new.servers.items c.in_ok-i.i c.in_ok-i.ensures.at keeps)
          c.in_err-append.ensures.err,
    ))

pub returns-clause-answer : goal.returns-clause-answer
returns-clause-answer g c =
    λ exact es keeps. append_done _ exact es c.args.server c.args.term c.args.leader c.args.keep (c.args.keep + c.common_with.result)
    c.args.entries.now (with_servers (kept_by c.args.self.now) c.server_at.new.servers.items) c.in_ok-i.i c.in-Some.j
    c.index.result.now c.index_mut-follower.result.now c.append.new.self c.index-2.result.now c.index-3.result.now
    c.in_ok-i.ensures.at.0 c.index.ensures c.index_mut-follower.ensures.value (c.in-Some.ensures.place exact es keeps)
    c.index-2.ensures c.index-3.ensures
    (keeps_at _ exact es c.args.server (kept_by c.args.self.now) c.server_at.new.servers.items c.in_ok-i.i c.in_ok-i.ensures.at keeps)
    (rw c.rank-rank.ensures at (sym (c.in-None-append_rule.ensures.rule (exact_entries _ exact) keeps.are_logs.distinct)))
    (ap (λ n. c.args.keep + n) c.common_with.ensures.common)
    c.next_log-log.result (c.next_log-log.ensures.log (g.T.Term.rank c.args.term) (exact_entries _ exact))
    c.next_log-log.ensures.earlier (rw c.rank-rank.ensures at c.in_ok-append.ensures.term)
    (rw (c.rank-rank.ensures, c.len-len.ensures.len) at c.in_ok-append.ensures.kept) c.in_ok-append.ensures.rest

pub index-requires : goal.index-requires
index-requires g c = within_len _ _ _ c.server_at.new.servers.ok.0 c.in_ok-i.ensures.within
