use Rattle.std.proofs.Common.{ap, ◌∙◌}
use Rattle.std.proofs.lemmas.Bool.{le-leb, leb-true}
use Rattle.raft_progress.specs.tracked.Tracked.{tracked_view}
use Rattle.raft_progress.proofs.CallerLemmas.{number_granted}
use Rattle.tests_progress.proofs.uses.holds_lease.Goals as goal

pub returns : goal.returns
returns g c past =
    let t = tracked_view c.args.replies.now in
    let ready = c.quorums_know_granted.ensures.ready in
    let held = number_granted g.met.NID.Eq.laws t ready c.args.since (c.granted_is_threshold.ensures t.progress ready.ordered c.args.since)
    past in
    rw (c.granted.ensures ∙ ap (λ p. p.granted) c.progress.ensures)
    ((λ h. held.0 (leb-true c.args.since t.progress.granted h)), (λ m. le-leb c.args.since t.progress.granted (held.1 m)))
