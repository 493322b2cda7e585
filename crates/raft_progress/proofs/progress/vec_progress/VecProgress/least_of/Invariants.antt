use Rattle.std.proofs.Common.{take, ◌++◌, List}
use Rattle.std.specs.Map.{lookup}
use Rattle.raft_progress.specs.Inner.Conditions.{IsLeastPassing, is_value_below}
use Rattle.raft_progress.proofs.progress.vec_progress.VecProgress.least_of.Given as goal

-- the least one of those before and of the ids so far
abbrev pub invariant-loop-id : goal.invariant-loop-id
invariant-loop-id g l =
    let test = λ (x : g.row.ID.Denot). is_value_below g.P.Ord.cmp g.V.ProgressPart.part_of l.part
    (lookup (g.ID.PartialEq.eq x) l.self.entries.items) in
    (seen : List g.row.ID.Denot) → IsLeastPassing g.ID.Ord.cmp test seen l.fn.so_far
    → IsLeastPassing g.ID.Ord.cmp test (seen ++ take l.id-index l.ids) l.least
