use Rattle.std.proofs.Common.{◌≡◌, ◌++◌, take}
use Rattle.raft_progress.proofs.progress.conditions.with_learners.Given as goal

-- the learners so far are there
abbrev pub invariant-loop-id : goal.invariant-loop-id
invariant-loop-id g l = l.all.items ≡ l.fn.ids.items ++ take l.id-index l.learners
