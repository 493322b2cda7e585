use Rattle.std.proofs.Common.{◌≡◌, Some, ap, sym, true, ◌∙◌}
use Rattle.raft_base.specs.LogId.{id_le}
use Rattle.raft_progress.specs.declared.inflight.InflightOf.TheVariants.{None as Idle}
use Rattle.raft_progress.specs.progress.ProgressView.{state}
use Rattle.raft_progress.specs.tracked.Tracked.{tracked_view}
use Rattle.steps_handlers.proofs.lemmas.FollowerLemmas.{entry_written, id_le-refl}
use Rattle.steps_handlers.proofs.leader.Leader.give_up.Goals as goal

pub returns-in-Some-clause-idle : goal.returns-in-Some-clause-idle
returns-in-Some-clause-idle g c = λ entry known.
    let me = c.self.inside in
    let to = c.args.to.now in
    let new = c.give_up.new.self in
    let here = rw (← c.self.view_is) at known in
    let found : Some c.in-Some.found ≡ Some entry =
    sym c.in-Some.is ∙ c.copied.ensures ∙ c.try_get.ensures
    ∙ ap (λ p. (state g.NID.PartialEq.eq p).value to) c.progress.ensures ∙ here in
    let same : c.in-Some.found ≡ entry = cc in
    let idle : new ≡ record entry { inflight = Idle } = rw same at c.give_up.ensures.idle in
    let le : id_le g.C.Ord.cmp entry.matching new.matching ≡ true = rw idle (id_le-refl g.met.C.Ord.total entry.matching) in
    rw (← c.self.view_is, ← idle) (entry_written g.met.C.Ord.total g.NID.PartialEq.eq
    (record {
      id = me.id;
      leader_id = me.leader_id;
      followers = tracked_view me.followers;
      members_at = me.members_at;
      last_request = me.last_request;
    })
    (tracked_view c.update-reply.new.self) to entry new c.update-reply.result c.update-reply.ensures.step here le)
