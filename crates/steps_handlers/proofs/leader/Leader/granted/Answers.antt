use Rattle.std.proofs.Common.{Some, ap, ◌∙◌}
use Rattle.raft_progress.specs.tracked.Tracked.{tracked_view}
use Rattle.steps_handlers.proofs.lemmas.GrantedLemmas.{match_granted}
use Rattle.steps_handlers.proofs.leader.Leader.granted.Goals as goal

pub returns-clause-greatest : goal.returns-clause-greatest
returns-clause-greatest g c = λ id.
    let me = c.self.inside in
    let t = tracked_view c.self.inside.followers in
    let ready = c.quorums_know_granted.ensures.ready in
    let each = match_granted g.met.NID.Eq.laws g.C.Ord.cmp
    (record { id = me.id; leader_id = me.leader_id; followers = t; members_at = me.members_at; last_request = me.last_request }) ready id
    (c.granted_is_threshold.ensures t.progress ready.ordered (Some id)) c.self.invariant in
    rw (← c.self.view_is) (rw (c.granted.ensures ∙ ap (λ p. p.granted) c.progress.ensures) each)
