use Rattle.std.proofs.Common.{◌≡◌, map, take}
use Rattle.std.specs.Set.{is_member}
use Rattle.raft_progress.proofs.progress.sides.Side.of.Given as goal

-- whether each id so far is a voter
abbrev pub invariant-loop-entry : goal.invariant-loop-entry
invariant-loop-entry g l =
    l.has.items ≡ map (λ e. is_member g.ID.PartialEq.eq l.config.keys e.0) (take l.entry-index l.sorted)
