use Rattle.std.proofs.Common.{◌≡◌, drop}
use Rattle.trace_checker.specs.Memberships.{some_meet}
use Rattle.trace_checker.proofs.memberships.some_meet.Given as goal

abbrev pub invariant-loop-config : goal.invariant-loop-config
invariant-loop-config g l =
    some_meet g.N.PartialEq.eq (λ q. q.items) (drop l.config-index l.these) l.others
    ≡ some_meet g.N.PartialEq.eq (λ q. q.items) l.these l.others
