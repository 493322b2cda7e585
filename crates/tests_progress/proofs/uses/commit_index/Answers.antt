use Rattle.std.proofs.Common.{ap, ◌∙◌}
use Rattle.raft_progress.specs.tracked.Tracked.{tracked_view}
use Rattle.raft_progress.proofs.CallerLemmas.{number_granted}
use Rattle.tests_progress.proofs.uses.commit_index.Goals as goal

pub returns : goal.returns
returns g c index past =
    let t = tracked_view c.args.matches.now in
    let ready = c.quorums_know_granted.ensures.ready in
    rw (c.granted.ensures ∙ ap (λ p. p.granted) c.progress.ensures)
    (number_granted g.met.NID.Eq.laws t ready index (c.granted_is_threshold.ensures t.progress ready.ordered index) past)
