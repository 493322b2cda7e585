use Rattle.std.proofs.Common.{◌∙◌, ap, length, sym}
use Rattle.std.specs.Set.{is_member}
use Rattle.std.proofs.lemmas.Result.{err_from_is_err_and}
use Rattle.trace_checker.specs.Checker.{kept_by}
use Rattle.trace_checker.specs.Inner.Logs.{log_at}
use Rattle.trace_checker.specs.declared.checker.leader.Leader.{Leader}
use Rattle.trace_checker.specs.declared.checker.server.Server.{Server}
use Rattle.trace_checker.proofs.lemmas.CheckerStepLemmas.{elected_again, exact_entries, grant_done, grant_refused, grant_unled, keeps_at, late_vote_done, logs_by, same_leader_again, same_server, voted_again, with_server, with_servers}
use Rattle.trace_checker.proofs.lemmas.LoopLemmas.{within_len}
use Rattle.trace_checker.proofs.checker.Checker.granted.Goals as goal

pub returns-in-None-clause-answer : goal.returns-in-None-clause-answer
returns-in-None-clause-answer g c =
    λ exact es keeps. grant_unled _ exact es c.args.server c.args.term c.args.candidate (kept_by c.args.self.now)
    (sym (c.in-None.ensures.place exact.same_term keeps.placed)) keeps

pub returns-in_err-i-clause-answer : goal.returns-in_err-i-clause-answer
returns-in_err-i-clause-answer g c =
    let p = err_from_is_err_and c.from_residual.result c.from_residual.ensures.1 in
    rw (p.1, p.2) (λ exact es keeps. (tt, rw c.in_err-i.ensures.err keeps))

pub returns-in-Some-grant_rule-clause-answer : goal.returns-in-Some-grant_rule-clause-answer
returns-in-Some-grant_rule-clause-answer g c =
    λ exact es keeps. grant_refused _ exact es c.args.server c.args.term c.args.candidate
    (with_servers (kept_by c.args.self.now) c.server_at.new.servers.items) c.in_ok-i.i c.in-Some.j
    c.index.result.now c.index-2.result.now c.in-Some-grant_rule.rule c.in_ok-i.ensures.at.0 c.index.ensures
    (sym (c.in-Some.ensures.place exact.same_term keeps.placed)) c.index-2.ensures
    (keeps_at _ exact es c.args.server (kept_by c.args.self.now)
    c.server_at.new.servers.items c.in_ok-i.i c.in_ok-i.ensures.at keeps)
    (rw c.rank-rank.ensures at (sym c.in-Some-grant_rule.ensures))

pub returns-then-rank-term-clause-answer : goal.returns-then-rank-term-clause-answer
returns-then-rank-term-clause-answer g c =
    λ exact es keeps. late_vote_done _ exact es c.args.server c.args.term c.args.candidate
    (with_servers (kept_by c.args.self.now) c.server_at.new.servers.items) c.in_ok-i.i c.in-Some.j
    c.index.result.now c.index_mut-voter.result.now c.vote_late.new.self c.index-2.result.now
    c.in_ok-i.ensures.at.0 c.index.ensures c.index_mut-voter.ensures.value
    (sym (c.in-Some.ensures.place exact.same_term keeps.placed)) c.index-2.ensures
    (keeps_at _ exact es c.args.server (kept_by c.args.self.now) c.server_at.new.servers.items c.in_ok-i.i c.in_ok-i.ensures.at keeps)
    (rw c.rank-rank.ensures at (sym c.in-None-grant_rule.ensures))
    (rw (c.rank-rank.ensures, c.term.ensures) at c.if-rank-term.true)
    (rw c.rank-rank.ensures at c.vote_late.ensures)

pub returns-in_err-make_room-clause-answer : goal.returns-in_err-make_room-clause-answer
returns-in_err-make_room-clause-answer g c =
    let p = err_from_is_err_and c.from_residual-in_err-make_room.result c.from_residual-in_err-make_room.ensures.1 in
    rw (p.1, p.2) (λ exact es keeps. (
      tt,
      same_server _ exact es (with_servers (kept_by c.args.self.now) c.server_at.new.servers.items) c.args.server c.in_ok-i.i
          c.index_mut-voter.result.now c.make_room.new.self c.in_ok-i.ensures.at.0 c.index_mut-voter.ensures.value
          (keeps_at _ exact es c.args.server (kept_by c.args.self.now) c.server_at.new.servers.items c.in_ok-i.i c.in_ok-i.ensures.at keeps)
          c.in_err-make_room.ensures.rest,
    ))

pub returns-in_err-vote-clause-answer : goal.returns-in_err-vote-clause-answer
returns-in_err-vote-clause-answer g c =
    let p = err_from_is_err_and c.from_residual-in_err-vote.result c.from_residual-in_err-vote.ensures.1 in
    rw (p.1, p.2) (λ exact es keeps. (
      tt,
      same_leader_again _ exact es (with_server (with_servers (kept_by c.args.self.now) c.server_at.new.servers.items)
          c.in_ok-i.i c.make_room.new.self) c.args.term c.args.candidate c.in-Some.j
          c.index_mut-leader.result.now c.vote.new.self
          (sym (c.in-Some.ensures.place exact.same_term keeps.placed)) c.index_mut-leader.ensures.value
          (same_server _ exact es (with_servers (kept_by c.args.self.now) c.server_at.new.servers.items) c.args.server c.in_ok-i.i
          c.index_mut-voter.result.now c.make_room.new.self c.in_ok-i.ensures.at.0 c.index_mut-voter.ensures.value
          (keeps_at _ exact es c.args.server (kept_by c.args.self.now) c.server_at.new.servers.items c.in_ok-i.i c.in_ok-i.ensures.at keeps)
          c.in_ok-make_room.ensures.rest)
          (ap (λ (l : Leader g.row.T.Denot g.row.N.Denot). l.acked.items) c.in_err-vote.ensures.rest)
          (record {
            term = ap (λ (l : Leader g.row.T.Denot g.row.N.Denot). l.term) c.in_err-vote.ensures.rest;
            id = ap (λ (l : Leader g.row.T.Denot g.row.N.Denot). l.id) c.in_err-vote.ensures.rest;
            start = ap (λ (l : Leader g.row.T.Denot g.row.N.Denot). l.start) c.in_err-vote.ensures.rest;
            log = ap (λ (l : Leader g.row.T.Denot g.row.N.Denot). log_at c.args.self.now.logs l.log) c.in_err-vote.ensures.rest;
            voters = c.in_err-vote.ensures.err_voters;
            elected = ap (λ (l : Leader g.row.T.Denot g.row.N.Denot). l.elected) c.in_err-vote.ensures.rest;
            committed = ap (λ (l : Leader g.row.T.Denot g.row.N.Denot). l.committed) c.in_err-vote.ensures.rest;
          })
          (ap (λ (l : Leader g.row.T.Denot g.row.N.Denot). l.log) c.in_err-vote.ensures.rest),
    ))

pub returns-clause-answer : goal.returns-clause-answer
returns-clause-answer g c =
    λ exact es keeps. grant_done _ exact es c.args.server c.args.term c.args.candidate
    (with_servers (kept_by c.args.self.now) c.server_at.new.servers.items) c.in_ok-i.i c.in-Some.j c.len.result
    c.index.result.now c.index_mut-voter.result.now c.make_room.new.self c.reach.new.self
    c.index-2.result.now c.index_mut-leader.result.now c.elect.new.self
    c.in_ok-i.ensures.at.0 c.index.ensures c.index_mut-voter.ensures.value (sym (c.in-Some.ensures.place exact.same_term keeps.placed))
    c.index-2.ensures c.index_mut-leader.ensures.value
    (keeps_at _ exact es c.args.server (kept_by c.args.self.now) c.server_at.new.servers.items c.in_ok-i.i c.in_ok-i.ensures.at keeps)
    (rw c.rank-rank.ensures at (sym c.in-None-grant_rule.ensures))
    (rw (c.rank-rank.ensures, c.term.ensures) at c.if-rank-term.false)
    c.in_ok-make_room.ensures.rest
    (c.len.ensures.len
    ∙ ap (λ (s : Server g.row.N.Denot). length (log_at c.args.self.now.logs s.log)) c.in_ok-make_room.ensures.rest)
    (rw c.rank-rank.ensures at c.reach.ensures.term) (rw c.rank-rank.ensures at c.reach.ensures.kept)
    (rw c.rank-rank.ensures at c.reach.ensures.rest)
    (λ v. ap (λ (l : Leader g.row.T.Denot g.row.N.Denot). is_member g.N.PartialEq.eq l.voters.items v) c.elect.ensures
    ∙ c.in_ok-vote.ensures.voters v)
    (λ d. rw (ap (λ (l : Leader g.row.T.Denot g.row.N.Denot). l.voters.items) c.elect.ensures) (c.in_ok-vote.ensures.distinct d))
    (elected_again _ exact es c.args.term c.args.candidate (with_servers (kept_by c.args.self.now) c.server_at.new.servers.items)
    c.in-Some.j c.index_mut-leader.result.now c.vote.new.self c.elect.new.self c.is_elected-elected.result
    (sym (c.in-Some.ensures.place exact.same_term keeps.placed)) c.index_mut-leader.ensures.value
    (keeps_at _ exact es c.args.server (kept_by c.args.self.now) c.server_at.new.servers.items c.in_ok-i.i c.in_ok-i.ensures.at keeps)
    c.in_ok-vote.ensures.rest c.elect.ensures c.in_ok-vote.ensures.distinct
    (λ within distinct. c.is_elected-elected.ensures (exact_entries _ exact)
    (logs_by (g.C.Configs.holds_config c.args.self.now.configs) c.args.self.now.logs keeps.are_logs) within distinct))
    (voted_again _ exact c.index_mut-leader.result.now c.vote.new.self c.elect.new.self c.is_elected-elected.result
    c.in_ok-vote.ensures.rest c.elect.ensures)

pub index-requires : goal.index-requires
index-requires g c = within_len _ _ _ c.server_at.new.servers.ok.0 c.in_ok-i.ensures.within

pub index_mut-voter-requires : goal.index_mut-voter-requires
index_mut-voter-requires g c = within_len _ _ _ c.server_at.new.servers.ok.0 c.in_ok-i.ensures.within

pub reach-requires : goal.reach-requires
reach-requires g c = c.in_ok-make_room.ensures.room
