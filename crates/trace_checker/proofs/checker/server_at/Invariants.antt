use Rattle.std.proofs.Common.{◌≡◌, ◌+◌, drop}
use Rattle.std.specs.List.{position_or_len}
use Rattle.trace_checker.proofs.checker.server_at.Given as goal

-- the first server of this id is not among those before
abbrev pub invariant-loop-i : goal.invariant-loop-i
invariant-loop-i g l =
    position_or_len (λ x. g.N.PartialEq.eq x.id l.id) l.fn.servers.items
    ≡ l.i + position_or_len (λ x. g.N.PartialEq.eq x.id l.id) (drop l.i l.fn.servers.items)
