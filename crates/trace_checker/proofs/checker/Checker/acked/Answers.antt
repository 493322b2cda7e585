use Rattle.std.proofs.Common.{ap, sym}
use Rattle.std.proofs.lemmas.Result.{err_from_is_err_and}
use Rattle.trace_checker.specs.Checker.{kept_by}
use Rattle.trace_checker.specs.declared.checker.leader.Leader.{Leader}
use Rattle.trace_checker.proofs.lemmas.CheckerStepLemmas.{ack_done, ack_refused, ack_unled, acked_leader, exact_entries, keeps_at, same_leader_again, with_servers}
use Rattle.trace_checker.proofs.lemmas.LoopLemmas.{within_len}
use Rattle.trace_checker.proofs.checker.Checker.acked.Goals as goal

pub returns-in-None-clause-answer : goal.returns-in-None-clause-answer
returns-in-None-clause-answer g c =
    λ exact es keeps. ack_unled _ exact es c.args.server c.args.term c.args.leader c.args.len (kept_by c.args.self.now)
    (c.in-None.ensures.place exact es keeps) keeps

pub returns-in_err-i-clause-answer : goal.returns-in_err-i-clause-answer
returns-in_err-i-clause-answer g c =
    let p = err_from_is_err_and c.from_residual.result c.from_residual.ensures.1 in
    rw (p.1, p.2) (λ exact es keeps. (tt, rw c.in_err-i.ensures.err keeps))

pub returns-in-Some-ack_rule-clause-answer : goal.returns-in-Some-ack_rule-clause-answer
returns-in-Some-ack_rule-clause-answer g c =
    λ exact es keeps. ack_refused _ exact es c.args.server c.args.term c.args.leader c.args.len
    (with_servers (kept_by c.args.self.now) c.server_at.new.servers.items) c.in_ok-i.i c.in-Some.j c.index.result.now
    c.index-2.result.now c.in-Some-ack_rule.rule
    c.in_ok-i.ensures.at.0 c.index.ensures (c.in-Some.ensures.place exact es keeps) c.index-2.ensures
    (keeps_at _ exact es c.args.server (kept_by c.args.self.now) c.server_at.new.servers.items c.in_ok-i.i c.in_ok-i.ensures.at keeps)
    (rw c.rank-rank.ensures at (sym (c.in-Some-ack_rule.ensures (exact_entries _ exact) keeps.are_logs.distinct)))

pub returns-in_err-ack-clause-answer : goal.returns-in_err-ack-clause-answer
returns-in_err-ack-clause-answer g c =
    let p = err_from_is_err_and c.from_residual-in_err-ack.result c.from_residual-in_err-ack.ensures.1 in
    rw (p.1, p.2) (λ exact es keeps. (
      tt,
      same_leader_again _ exact es (with_servers (kept_by c.args.self.now) c.server_at.new.servers.items) c.args.term
          c.args.leader c.in-Some.j
          c.index_mut.result.now c.ack.new.self (c.in-Some.ensures.place exact es keeps).place c.index_mut.ensures.value
          (keeps_at _ exact es c.args.server (kept_by c.args.self.now) c.server_at.new.servers.items c.in_ok-i.i c.in_ok-i.ensures.at keeps)
          c.in_err-ack.ensures.err_acked
          (acked_leader _ exact (kept_by c.args.self.now) c.index_mut.result.now c.ack.new.self c.in_err-ack.ensures.rest)
          (ap (λ (l : Leader g.row.T.Denot g.row.N.Denot). l.log) c.in_err-ack.ensures.rest),
    ))

pub returns-clause-answer : goal.returns-clause-answer
returns-clause-answer g c =
    λ exact es keeps. ack_done _ exact es c.args.server c.args.term c.args.leader c.args.len
    (with_servers (kept_by c.args.self.now) c.server_at.new.servers.items) c.in_ok-i.i c.in-Some.j
    c.index.result.now c.index_mut-2.result.now c.ack-2.new.self c.index-2.result.now c.index_mut.result.now c.ack.new.self
    c.in_ok-i.ensures.at.0 c.index.ensures c.index_mut-2.ensures.value (c.in-Some.ensures.place exact es keeps)
    c.index-2.ensures c.index_mut.ensures.value
    (keeps_at _ exact es c.args.server (kept_by c.args.self.now) c.server_at.new.servers.items c.in_ok-i.i c.in_ok-i.ensures.at keeps)
    (rw c.rank-rank.ensures at (sym (c.in-None-ack_rule.ensures (exact_entries _ exact) keeps.are_logs.distinct)))
    c.ack-2.ensures c.in_ok-ack.ensures.acked c.in_ok-ack.ensures.rest

pub index-requires : goal.index-requires
index-requires g c = within_len _ _ _ c.server_at.new.servers.ok.0 c.in_ok-i.ensures.within

pub index_mut-requires-2 : goal.index_mut-requires-2
index_mut-requires-2 g c = within_len _ _ _ c.server_at.new.servers.ok.0 c.in_ok-i.ensures.within
