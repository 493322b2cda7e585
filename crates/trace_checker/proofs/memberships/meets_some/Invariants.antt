use Rattle.std.proofs.Common.{◌≡◌, drop}
use Rattle.trace_checker.specs.Memberships.{meets_some}
use Rattle.trace_checker.proofs.memberships.meets_some.Given as goal

abbrev pub invariant-loop-other : goal.invariant-loop-other
invariant-loop-other g l =
    meets_some g.N.PartialEq.eq (λ q. q.items) l.config (drop l.other-index l.others)
    ≡ meets_some g.N.PartialEq.eq (λ q. q.items) l.config l.others
