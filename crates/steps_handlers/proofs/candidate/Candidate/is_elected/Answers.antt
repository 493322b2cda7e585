use Rattle.std.proofs.Common.{ap, true, ◌∙◌}
use Rattle.raft_progress.specs.tracked.Tracked.{tracked_view}
use Rattle.raft_progress.proofs.CallerLemmas.{vote_granted}
use Rattle.steps_handlers.proofs.candidate.Candidate.is_elected.Goals as goal

pub returns : goal.returns
returns g c =
    let t = tracked_view c.self.inside.votes in
    let ready = c.quorums_know_granted.ensures.ready in
    let each = vote_granted g.met.NID.Eq.laws t ready (c.granted_is_threshold.ensures t.progress ready.ordered true) c.self.invariant in
    rw (← c.self.view_is) (rw (c.granted.ensures ∙ ap (λ p. p.granted) c.progress.ensures) each)
