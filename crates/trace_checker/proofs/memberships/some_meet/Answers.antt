use Rattle.std.proofs.Common.{◌∙◌, refl, sym, arith}
use Rattle.trace_checker.specs.Memberships.{meets_some}
use Rattle.trace_checker.proofs.lemmas.LoopLemmas.{any_here, any_later, any_nowhere}
use Rattle.trace_checker.proofs.memberships.some_meet.Goals as goal

pub loop-config-init : goal.loop-config-init
loop-config-init g c = refl

pub returns-then-meets_some : goal.returns-then-meets_some
returns-then-meets_some g c =
    any_here (λ q. meets_some g.N.PartialEq.eq (λ r. r.items) q.items c.args.others.now) c.args.these.now
    c.loop-config.config-index c.config-item.result (omega arith) c.config-item.is
    (rw c.deref.ensures.value at (sym c.meets_some.ensures ∙ c.if-meets_some.true)) c.loop-config.invariant

pub loop-config-preserved : goal.loop-config-preserved
loop-config-preserved g c =
    any_later (λ q. meets_some g.N.PartialEq.eq (λ r. r.items) q.items c.args.others.now) c.args.these.now
    c.loop-config.config-index c.config-item.result (omega arith) c.config-item.is
    (rw c.deref.ensures.value at (sym c.meets_some.ensures ∙ c.if-meets_some.false)) c.loop-config.invariant

pub returns : goal.returns
returns g c =
    any_nowhere (λ q. meets_some g.N.PartialEq.eq (λ r. r.items) q.items c.args.others.now) c.args.these.now
    c.loop-config.config-index (omega arith) c.loop-config.invariant
