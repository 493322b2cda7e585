use Rattle.std.proofs.Common.{ap, ◌∙◌}
use Rattle.raft_progress.specs.tracked.Tracked.{tracked_view}
use Rattle.tests_progress.proofs.tracked.granted_of.Goals as goal

pub returns : goal.returns
returns g c = (
  tracked_view c.in_ok-cluster.cluster,
  tracked_view c.replay.new.cluster,
  c.in_ok-_replies._replies.items,
  c.in_ok-cluster.ensures.membership,
  c.in_ok-_replies.ensures.run,
  c.replay.ensures.quorums,
  c.granted.ensures ∙ ap (λ p. p.granted) c.progress.ensures,
)
