use Rattle.std.proofs.Common.{◌≡◌, take}
use Rattle.std.specs.List.{IsDistinct}
use Rattle.std.specs.Set.{is_member}
use Rattle.trace_checker.specs.Inner.CheckerState.{has_acked_to}
use Rattle.trace_checker.proofs.checker.leader.Leader.acked_to.Given as goal

abbrev pub invariant-loop-acked : goal.invariant-loop-acked
invariant-loop-acked g l = record {
  distinct : IsDistinct g.N.PartialEq.eq l.ids.items;
  servers : (v : g.row.N.Denot) → is_member g.N.PartialEq.eq l.ids.items v
      ≡ has_acked_to g.N.PartialEq.eq (take l.acked-index l.self.acked.items) v l.len;
}
