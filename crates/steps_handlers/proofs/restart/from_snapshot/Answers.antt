use Rattle.std.proofs.Common.{◌≡◌, ap, rules, sym, true, ◌∙◌}
use Rattle.raft_base.specs.declared.vote.VoteIn.{VoteIn}
use Rattle.steps_handlers.proofs.lemmas.RestartLemmas.{alone_installed, alone_new, fits_if_taken, none_there, past_promised, promised, refusal_promised, refused_if_not, some_there}
use Rattle.steps_handlers.specs.Restart.{snapshot_fits}
use Rattle.steps_handlers.specs.declared.changes.SnapshotChanges.{SnapshotChanges}
use Rattle.raft_state.specs.raft_state.VoteAndLog.{vote_of}
use Rattle.steps_handlers.proofs.restart.from_snapshot.Goals as goal
use Rattle.steps_handlers.proofs.restart.from_snapshot.Goals.{then-is_some+in_ok-_installed, else-is_some}

pub returns-in_err-_installed-clause-refused : goal.returns-in_err-_installed-clause-refused
returns-in_err-_installed-clause-refused g c =
    let s = c.in_ok-state.state in
    let own = c.in_ok-state.ensures.new_vote in
    let vote : c.commit.new.self ≡ record (vote_of s) { committed = true } =
    c.commit.ensures.committed ∙ ap (λ (v : VoteIn g.row.L.Denot). record v { committed = true }) c.vote_ref.ensures in
    let refusal = refusal_promised g.NID.PartialEq.eq g.N.PartialEq.eq g.L.PartialEq.eq g.L.LeaderIdentity.order g.L.Committed.Ord.cmp
    g.L.Committed.PartialEq.eq g.met.L.Eq.laws g.met.L.LeaderIdentity.partial own.0 own.1 s c.promise-promised.new.self
    c.in_ok-state.ensures.new own.4 c.commit.new.self vote c.promise-promised.result c.promise-promised.ensures.answer
    c.promise-promised.ensures.taken c.args.snapshot.now
    (sym c.is_some.ensures ∙ c.if-is_some.true) in
    let why = refused_if_not SnapshotChanges
    (snapshot_fits g.L.Committed.Ord.cmp c.args.snapshot.now.last_log_id c.args.snapshot.now.last_membership) _
    (rw refusal at c.in_err-_installed.ensures.refused) in
    search (rules, why)

pub returns-clause-fits : goal.returns-clause-fits
returns-clause-fits g c = elim c.if-is_some.branch [
  | then-is_some+in_ok-_installed w ↦
      let s = c.in_ok-state.state in
      let own = c.in_ok-state.ensures.new_vote in
      let vote : w.commit.new.self ≡ record (vote_of s) { committed = true } =
      w.commit.ensures.committed ∙ ap (λ (v : VoteIn g.row.L.Denot). record v { committed = true }) w.vote_ref.ensures in
      let refusal = refusal_promised g.NID.PartialEq.eq g.N.PartialEq.eq g.L.PartialEq.eq g.L.LeaderIdentity.order g.L.Committed.Ord.cmp
      g.L.Committed.PartialEq.eq g.met.L.Eq.laws g.met.L.LeaderIdentity.partial own.0 own.1 s w.promise-promised.new.self
      c.in_ok-state.ensures.new own.4 w.commit.new.self vote w.promise-promised.result w.promise-promised.ensures.answer
      w.promise-promised.ensures.taken c.args.snapshot.now
      (sym c.is_some.ensures ∙ w.if-is_some.true) in
      fits_if_taken (snapshot_fits g.L.Committed.Ord.cmp c.args.snapshot.now.last_log_id c.args.snapshot.now.last_membership) _
      (rw refusal at w.in_ok-_installed.ensures.refused)
  | else-is_some w ↦ rw (none_there c.args.snapshot.now.last_log_id (sym c.is_some.ensures ∙ w.if-is_some.false))
]

pub returns-clause-snapshot : goal.returns-clause-snapshot
returns-clause-snapshot g c = elim c.if-is_some.branch [
  | then-is_some+in_ok-_installed w ↦
      let s = c.in_ok-state.state in
      let own = c.in_ok-state.ensures.new_vote in
      let vote : w.commit.new.self ≡ record (vote_of s) { committed = true } =
      w.commit.ensures.committed ∙ ap (λ (v : VoteIn g.row.L.Denot). record v { committed = true }) w.vote_ref.ensures in
      let is = promised g.NID.PartialEq.eq g.N.PartialEq.eq g.L.PartialEq.eq g.L.LeaderIdentity.order g.L.Committed.Ord.cmp
      g.L.Committed.PartialEq.eq g.met.L.Eq.laws g.met.L.LeaderIdentity.partial own.0 own.1 s w.promise-promised.new.self
      c.in_ok-state.ensures.new own.4 w.commit.new.self vote w.promise-promised.result w.promise-promised.ensures.answer
      w.promise-promised.ensures.taken in
      let some = sym c.is_some.ensures ∙ w.if-is_some.true in
      let past = past_promised g.NID.PartialEq.eq g.N.PartialEq.eq g.L.PartialEq.eq g.L.LeaderIdentity.order g.L.Committed.Ord.cmp
      g.L.Committed.PartialEq.eq g.met.L.Eq.laws g.met.L.LeaderIdentity.partial own.0 own.1 s w.promise-promised.new.self
      c.in_ok-state.ensures.new own.4 w.commit.new.self vote w.promise-promised.result w.promise-promised.ensures.answer
      w.promise-promised.ensures.taken c.args.snapshot.now.last_log_id some in
      let there = some_there c.args.snapshot.now.last_log_id some in
      rw w.state-is (alone_installed g.NID.PartialEq.eq g.N.PartialEq.eq g.L.PartialEq.eq _
      c.args.snapshot.now w.promise-promised.new.self w.install.new.state there.0 there.1
      (rw is c.in_ok-state.ensures.new.log) (w.in_ok-_installed.ensures.installs.installed past))
  | else-is_some w ↦ rw w.state-is (alone_new g.NID.PartialEq.eq g.N.PartialEq.eq c.args.snapshot.now c.in_ok-state.state
      (none_there c.args.snapshot.now.last_log_id (sym c.is_some.ensures ∙ w.if-is_some.false)) c.in_ok-state.ensures.new)
]
