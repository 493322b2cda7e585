use Rattle.std.proofs.Common.{◌<◌, ◌∙◌, length, ap, refl, arith}
use Rattle.std.proofs.lemmas.List.{take_all}
use Rattle.trace_checker.specs.Inner.CheckerState.{has_acked_to}
use Rattle.trace_checker.proofs.lemmas.CheckerCodeLemmas.{counted, not_counted, distinct_none}
use Rattle.trace_checker.proofs.checker.leader.Leader.acked_to.Goals as goal
use Rattle.trace_checker.proofs.checker.leader.Leader.acked_to.Goals.{then-len-acked+in_ok-add_once, else-len-acked}

pub loop-acked-init : goal.loop-acked-init
loop-acked-init g c = record {
  distinct = rw c.new-ids.ensures.items (distinct_none g.N.PartialEq.eq);
  servers = λ v. rw c.new-ids.ensures.items refl;
}

pub loop-acked-preserved : goal.loop-acked-preserved
loop-acked-preserved g c =
    let within : c.loop-acked.acked-index < length c.args.self.now.acked.items = omega arith in
    elim c.if-len-acked.branch [
      | then-len-acked+in_ok-add_once w ↦ record {
        distinct = rw w.ids-is (w.in_ok-add_once.ensures.distinct c.loop-acked.invariant.distinct);
        servers = λ v. rw w.ids-is (counted g.N.PartialEq.eq g.met.N.Eq.laws c.args.self.now.acked.items
            c.loop-acked.acked-index c.acked-item.result c.args.len c.loop-acked.ids.items
            w.add_once.new.ids.items within (rw c.deref-acked-items.ensures.value at c.acked-item.is) w.if-len-acked.true
            c.loop-acked.invariant.servers w.in_ok-add_once.ensures.members v);
      }
      | else-len-acked w ↦ record {
        distinct = rw w.ids-is c.loop-acked.invariant.distinct;
        servers = λ v. rw w.ids-is (not_counted g.N.PartialEq.eq c.args.self.now.acked.items
            c.loop-acked.acked-index c.acked-item.result c.args.len c.loop-acked.ids.items
            within (rw c.deref-acked-items.ensures.value at c.acked-item.is) w.if-len-acked.false c.loop-acked.invariant.servers v);
      }
    ]

pub returns-clause-servers : goal.returns-clause-servers
returns-clause-servers g c =
    λ v. c.loop-acked.invariant.servers v
    ∙ ap (λ l. has_acked_to g.N.PartialEq.eq l v c.args.len)
    (take_all c.loop-acked.acked-index c.args.self.now.acked.items (omega arith))
