use Rattle.std.proofs.Common.{◌≡◌, ◌++◌}
use Rattle.raft_members.specs.membership.Learners.{learners_ahead, learners_of}
use Rattle.raft_progress.proofs.tracked.learners_of.Given as goal

abbrev pub invariant-loop-id : goal.invariant-loop-id
invariant-loop-id g l = learners_of g.NID.PartialEq.eq l.membership ≡ l.ids.items ++ learners_ahead g.NID.PartialEq.eq l.id-iterator
