use Rattle.std.proofs.Common.{take}
use Rattle.raft_progress.specs.Inner.Placed.{IsPlaced}
use Rattle.raft_progress.proofs.progress.entries.append_ids.Given as goal

-- the ids so far have been appended
abbrev pub invariant-loop-id : goal.invariant-loop-id
invariant-loop-id g l = IsPlaced g.V.Clone.is_clone l.default (take l.id-index l.ids) l.fn.entries.items l.entries.items
