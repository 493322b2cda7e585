use Rattle.std.proofs.Common.{◌≡◌, ◌∙◌, ap, length, refl, sym}
use Rattle.std.proofs.lemmas.Result.{err_from_is_err_and}
use Rattle.trace_checker.specs.Checker.{kept_by}
use Rattle.trace_checker.specs.declared.checker.leader.Leader.{Leader}
use Rattle.trace_checker.specs.declared.checker.server.Server.{Server}
use Rattle.trace_checker.specs.Inner.Logs.{log_at}
use Rattle.trace_checker.proofs.lemmas.CheckerStepLemmas.{campaign_done, campaign_passed, campaign_twice, elected_first, exact_entries, keeps_at, logs_by, same_server, with_servers}
use Rattle.trace_checker.proofs.lemmas.LoopLemmas.{within_len}
use Rattle.trace_checker.proofs.checker.Checker.campaigned.Goals as goal

pub returns-in_err-i-clause-answer : goal.returns-in_err-i-clause-answer
returns-in_err-i-clause-answer g c =
    let p = err_from_is_err_and c.from_residual.result c.from_residual.ensures.1 in
    rw (p.1, p.2) (λ exact es keeps. (tt, rw c.in_err-i.ensures.err keeps))

pub returns-in-Some-clause-answer : goal.returns-in-Some-clause-answer
returns-in-Some-clause-answer g c =
    λ exact es keeps. campaign_twice _ exact es c.args.term c.args.server
    (with_servers (kept_by c.args.self.now) c.server_at.new.servers.items) c.in-Some.field-0
    (sym (c.in-Some.ensures.place exact.same_term keeps.placed))
    (keeps_at _ exact es c.args.server (kept_by c.args.self.now) c.server_at.new.servers.items c.in_ok-i.i c.in_ok-i.ensures.at keeps)

pub returns-in-None-clause-answer : goal.returns-in-None-clause-answer
returns-in-None-clause-answer g c =
    λ exact es keeps. campaign_passed _ exact es c.args.term c.args.server
    (with_servers (kept_by c.args.self.now) c.server_at.new.servers.items) c.in_ok-i.i
    c.index.result.now c.in_ok-i.ensures.at.0 c.index.ensures (sym (c.in-None.ensures.place exact.same_term keeps.placed))
    (keeps_at _ exact es c.args.server (kept_by c.args.self.now) c.server_at.new.servers.items c.in_ok-i.i c.in_ok-i.ensures.at keeps)
    (rw (c.rank-rank.ensures, c.term.ensures) at c.if-rank-term.true)

pub returns-in_err-reserve-clause-answer : goal.returns-in_err-reserve-clause-answer
returns-in_err-reserve-clause-answer g c =
    let p = err_from_is_err_and c.from_residual-in_err-reserve.result c.from_residual-in_err-reserve.ensures.1 in
    rw (p.1, p.2) (λ exact es keeps. (
      tt,
      rw c.in_err-reserve.ensures.items (same_server _ exact es (with_servers (kept_by c.args.self.now)
          c.server_at.new.servers.items) c.args.server c.in_ok-i.i
          c.index_mut-voter.result.now c.index_mut-voter.result.now c.in_ok-i.ensures.at.0 c.index_mut-voter.ensures.value
          (keeps_at _ exact es c.args.server (kept_by c.args.self.now) c.server_at.new.servers.items c.in_ok-i.i c.in_ok-i.ensures.at keeps)
          refl),
    ))

pub returns-in_err-make_room-clause-answer : goal.returns-in_err-make_room-clause-answer
returns-in_err-make_room-clause-answer g c =
    let p = err_from_is_err_and c.from_residual-in_err-make_room.result c.from_residual-in_err-make_room.ensures.1 in
    rw (p.1, p.2) (λ exact es keeps. (
      tt,
      rw c.in_ok-reserve.ensures.items (same_server _ exact es (with_servers (kept_by c.args.self.now)
          c.server_at.new.servers.items) c.args.server c.in_ok-i.i
          c.index_mut-voter.result.now c.make_room.new.self c.in_ok-i.ensures.at.0 c.index_mut-voter.ensures.value
          (keeps_at _ exact es c.args.server (kept_by c.args.self.now) c.server_at.new.servers.items c.in_ok-i.i c.in_ok-i.ensures.at keeps)
          c.in_err-make_room.ensures.rest),
    ))

pub returns-in_err-leader-clause-answer : goal.returns-in_err-leader-clause-answer
returns-in_err-leader-clause-answer g c =
    let p = err_from_is_err_and c.from_residual-in_err-leader.result c.from_residual-in_err-leader.ensures.1 in
    rw (p.1, p.2) (λ exact es keeps. (
      tt,
      rw c.in_ok-reserve.ensures.items (same_server _ exact es (with_servers (kept_by c.args.self.now)
          c.server_at.new.servers.items) c.args.server c.in_ok-i.i
          c.index_mut-voter.result.now c.make_room.new.self c.in_ok-i.ensures.at.0 c.index_mut-voter.ensures.value
          (keeps_at _ exact es c.args.server (kept_by c.args.self.now) c.server_at.new.servers.items c.in_ok-i.i c.in_ok-i.ensures.at keeps)
          c.in_ok-make_room.ensures.rest),
    ))

pub returns-in_err-note_place-clause-answer : goal.returns-in_err-note_place-clause-answer
returns-in_err-note_place-clause-answer g c =
    let p = err_from_is_err_and c.from_residual-in_err-note_place.result c.from_residual-in_err-note_place.ensures.1 in
    rw (p.1, p.2) (λ exact es keeps. (
      tt,
      rw (c.in_ok-reserve.ensures.items, c.in_err-note_place.ensures.err) (same_server _ exact es
          (with_servers (kept_by c.args.self.now) c.server_at.new.servers.items) c.args.server c.in_ok-i.i
          c.index_mut-voter.result.now c.make_room.new.self c.in_ok-i.ensures.at.0 c.index_mut-voter.ensures.value
          (keeps_at _ exact es c.args.server (kept_by c.args.self.now) c.server_at.new.servers.items c.in_ok-i.i c.in_ok-i.ensures.at keeps)
          c.in_ok-make_room.ensures.rest),
    ))

pub returns-clause-answer : goal.returns-clause-answer
returns-clause-answer g c =
    λ exact es keeps. rw (c.push_front_reserved.ensures.items, c.in_ok-reserve.ensures.items)
    (campaign_done _ exact es c.args.term c.args.server (with_servers (kept_by c.args.self.now) c.server_at.new.servers.items) c.in_ok-i.i
    c.len-len.result c.index.result.now c.index_mut-voter.result.now c.make_room.new.self c.reach.new.self
    c.elect.new.self
    c.in_ok-i.ensures.at.0 c.index.ensures c.index_mut-voter.ensures.value
    (keeps_at _ exact es c.args.server (kept_by c.args.self.now) c.server_at.new.servers.items c.in_ok-i.i c.in_ok-i.ensures.at keeps)
    (rw (c.rank-rank.ensures, c.term.ensures) at c.if-rank-term.false)
    c.in_ok-make_room.ensures.rest c.len-len.ensures.len (rw c.rank-rank.ensures at c.reach.ensures.term)
    (rw c.rank-rank.ensures at c.reach.ensures.kept) (rw c.rank-rank.ensures at c.reach.ensures.rest)
    (elected_first _ exact (kept_by c.args.self.now) c.args.term c.args.server c.index_mut-voter.result.now
    c.in_ok-leader.leader c.elect.new.self c.is_elected-elected.result
    ((keeps_at _ exact es c.args.server (kept_by c.args.self.now) c.server_at.new.servers.items c.in_ok-i.i c.in_ok-i.ensures.at
    keeps).have_logs.of_servers c.in_ok-i.i c.index_mut-voter.result.now c.in_ok-i.ensures.within c.index_mut-voter.ensures.value)
    c.in_ok-leader.ensures.term (c.in_ok-leader.ensures.start ∙ c.len-len.ensures.len)
    (c.in_ok-leader.ensures.log ∙ ap (λ (s : Server g.row.N.Denot). s.log) c.in_ok-make_room.ensures.rest)
    c.in_ok-leader.ensures.voters c.elect.ensures
    (λ within distinct. c.is_elected-elected.ensures (exact_entries _ exact)
    (logs_by (g.C.Configs.holds_config c.args.self.now.configs) c.args.self.now.logs keeps.are_logs) within distinct))
    (ap (λ (l : Leader g.row.T.Denot g.row.N.Denot). l.acked.items) c.elect.ensures ∙ c.in_ok-leader.ensures.acked)
    (record {
      term = ap (λ (l : Leader g.row.T.Denot g.row.N.Denot). l.term) c.elect.ensures ∙ c.in_ok-leader.ensures.term;
      id = ap (λ (l : Leader g.row.T.Denot g.row.N.Denot). l.id) c.elect.ensures ∙ c.in_ok-leader.ensures.id;
      start = ap (λ (l : Leader g.row.T.Denot g.row.N.Denot). l.start) c.elect.ensures ∙ c.in_ok-leader.ensures.start
          ∙ c.len-len.ensures.len;
      log = ap (λ (l : Leader g.row.T.Denot g.row.N.Denot). log_at c.args.self.now.logs l.log) c.elect.ensures
          ∙ ap (log_at c.args.self.now.logs)
          (c.in_ok-leader.ensures.log ∙ ap (λ (s : Server g.row.N.Denot). s.log) c.in_ok-make_room.ensures.rest);
      voters = ap (λ (l : Leader g.row.T.Denot g.row.N.Denot). l.voters.items) c.elect.ensures ∙ c.in_ok-leader.ensures.voters;
      elected = refl;
      committed = ap (λ (l : Leader g.row.T.Denot g.row.N.Denot). l.committed) c.elect.ensures ∙ c.in_ok-leader.ensures.committed;
    })
    (ap (λ (l : Leader g.row.T.Denot g.row.N.Denot). l.log) c.elect.ensures ∙ c.in_ok-leader.ensures.log
    ∙ ap (λ (s : Server g.row.N.Denot). s.log) c.in_ok-make_room.ensures.rest)
    c.note_place.new.places.entries
    (let count : c.len.result ≡ length c.args.self.now.leaders.items =
    c.len.ensures ∙ c.reserve.new.self.ok.0 ∙ ap length c.in_ok-reserve.ensures.items in
    rw (c.rank-rank.ensures, count) at c.in_ok-note_place.ensures.here)
    (rw c.rank-rank.ensures at c.in_ok-note_place.ensures.others))

pub index-requires : goal.index-requires
index-requires g c = within_len _ _ _ c.server_at.new.servers.ok.0 c.in_ok-i.ensures.within
