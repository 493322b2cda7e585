use Rattle.std.proofs.Common.{ap, true, ◌∙◌}
use Rattle.raft_progress.specs.tracked.Tracked.{tracked_view}
use Rattle.raft_progress.proofs.CallerLemmas.{vote_granted}
use Rattle.tests_progress.proofs.uses.is_elected.Goals as goal

pub returns : goal.returns
returns g c none =
    let t = tracked_view c.args.votes.now in
    let ready = c.quorums_know_granted.ensures.ready in
    rw (c.granted.ensures ∙ ap (λ p. p.granted) c.progress.ensures)
    (vote_granted g.met.NID.Eq.laws t ready (c.granted_is_threshold.ensures t.progress ready.ordered true) none)
