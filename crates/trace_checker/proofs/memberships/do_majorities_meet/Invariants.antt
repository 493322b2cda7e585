use Rattle.std.proofs.Common.{◌≡◌, ◌≤◌, not, take}
use Rattle.std.specs.List.{count_by}
use Rattle.std.specs.Set.{is_member}
use Rattle.trace_checker.proofs.memberships.do_majorities_meet.Given as goal

abbrev pub invariant-loop-id : goal.invariant-loop-id
invariant-loop-id g l = record {
  counted : l.added ≡ count_by (λ id. not (is_member g.N.PartialEq.eq l.config id)) (take l.id-index l.other);
  few : l.added ≤ l.id-index;
}
