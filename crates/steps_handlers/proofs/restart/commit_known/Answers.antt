use Rattle.std.proofs.Common.{◌≡◌, rules, sym, ◌∙◌}
use Rattle.raft_members.specs.membership.Stored.{log_id_of}
use Rattle.steps_handlers.proofs.lemmas.RestartLemmas.{is_known}
use Rattle.steps_handlers.proofs.restart.commit_known.Goals as goal

pub returns-clause-known : goal.returns-clause-known
returns-clause-known g c =
    let s = c.args.state.now in
    let is : c.log_id.result.now ≡ log_id_of s.membership_state.committed = search rules in
    is_known g.C.PartialEq.eq g.C.Ord.cmp g.met.C.Ord.total s c.update_committed.new.self
    (rw is at (sym c.is_logged.ensures ∙ c.if-not-is_logged.false)) (rw is at (sym c.can_commit.ensures ∙ c.if-not-can_commit.false))
    (rw is at c.in_ok-update_committed.ensures.ok)
