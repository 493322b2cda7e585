use Rattle.std.proofs.Common.{ap}
use Rattle.raft_progress.specs.tracked.Tracked.{tracked_view}
use Rattle.steps_handlers.proofs.lemmas.FollowerLemmas.{stale_stays}
use Rattle.steps_handlers.proofs.leader.Leader.handle_flushed.Goals as goal

pub returns-clause-stale : goal.returns-clause-stale
returns-clause-stale g c = λ entry known low.
    let me = c.self.inside in
    let old = tracked_view c.self.inside.followers in
    let new = tracked_view c.update-reply.new.self in
    let is = stale_stays g.met.C.Ord.total g.NID.PartialEq.eq old new c.self.inside.id entry c.new-entry.result c.update-reply.result
    c.update-reply.ensures.step (rw (← c.self.view_is) at known) (rw c.new-entry.ensures low) in
    rw (← c.self.view_is)
    (ap (λ t. record {
      id = me.id;
      leader_id = me.leader_id;
      followers = t;
      members_at = me.members_at;
      last_request = me.last_request;
    }) is)
