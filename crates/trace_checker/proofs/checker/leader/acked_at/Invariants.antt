use Rattle.std.proofs.Common.{◌≡◌, ◌+◌, drop}
use Rattle.std.specs.List.{position_or_len}
use Rattle.trace_checker.proofs.checker.leader.acked_at.Given as goal

-- the first acknowledgement of this server is not among those before
abbrev pub invariant-loop-i : goal.invariant-loop-i
invariant-loop-i g l =
    position_or_len (λ x. g.N.PartialEq.eq x.server l.server) l.acked
    ≡ l.i + position_or_len (λ x. g.N.PartialEq.eq x.server l.server) (drop l.i l.acked)
