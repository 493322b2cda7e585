use Rattle.std.proofs.Common.{◌∙◌, refl, sym, arith}
use Rattle.trace_checker.specs.Memberships.{majorities_meet}
use Rattle.trace_checker.proofs.lemmas.LoopLemmas.{any_here, any_later, any_nowhere}
use Rattle.trace_checker.proofs.memberships.meets_some.Goals as goal

pub loop-other-init : goal.loop-other-init
loop-other-init g c = refl

pub returns-then-do_majorities_meet : goal.returns-then-do_majorities_meet
returns-then-do_majorities_meet g c =
    any_here (λ q. majorities_meet g.N.PartialEq.eq c.args.config.now q.items) c.args.others.now
    c.loop-other.other-index c.other-item.result (omega arith) c.other-item.is
    (rw c.deref.ensures.value at (sym c.do_majorities_meet.ensures ∙ c.if-do_majorities_meet.true)) c.loop-other.invariant

pub loop-other-preserved : goal.loop-other-preserved
loop-other-preserved g c =
    any_later (λ q. majorities_meet g.N.PartialEq.eq c.args.config.now q.items) c.args.others.now
    c.loop-other.other-index c.other-item.result (omega arith) c.other-item.is
    (rw c.deref.ensures.value at (sym c.do_majorities_meet.ensures ∙ c.if-do_majorities_meet.false)) c.loop-other.invariant

pub returns : goal.returns
returns g c =
    any_nowhere (λ q. majorities_meet g.N.PartialEq.eq c.args.config.now q.items) c.args.others.now
    c.loop-other.other-index (omega arith) c.loop-other.invariant
