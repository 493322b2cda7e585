use Rattle.std.proofs.Common.{nat_eq, refl}
use Rattle.std.proofs.lemmas.Bool.{eqb-true}
use Rattle.trace_checker.specs.Checker.{event_of as trace_event}
use Rattle.trace_judge.specs.Numbers.{number_tests}
use Rattle.trace_judge.proofs.lemmas.RunLemmas.{exact_when, stays_new, stays_unlearned, takes_new}
use Rattle.trace_judge.proofs.judge.Judge.take_new_membership.Goals as goal

pub returns-in-Ok-take_event-clause-taken : goal.returns-in-Ok-take_event-clause-taken
returns-in-Ok-take_event-clause-taken c =
    let mid = record c.args.self.now { checker = c.learn-learned.new.self } in
    let exact = c.memberships_are_exact.ensures (λ x y e. eqb-true x y e) (λ x y e. eqb-true x y e) (λ x y e. eqb-true x y e) in
    λ number_of d says. (
      (c.args.content, c.args.configs),
      says,
      takes_new number_tests c.args.self.now mid c.take_event.new.self (trace_event c.args.event.now)
          (c.args.content, c.args.configs) (c.in-Ok.ensures.initial, refl, λ a n is. is, c.in-Ok.ensures.counting)
          c.in-Ok.ensures.learned c.in-Ok.ensures.keeps
          refl refl (exact_when _ c.learn-learned.new.self.counting (rw c.configs.ensures at exact)) c.in-Ok-take_event.ensures.taken,
    )

pub returns-in-Err-take_event-clause-broken : goal.returns-in-Err-take_event-clause-broken
returns-in-Err-take_event-clause-broken c =
    let mid = record c.args.self.now { checker = c.learn-learned.new.self } in
    let refused = c.take_event.new.self in
    let new = record refused { checker = c.forget.new.self } in
    let exact = c.memberships_are_exact.ensures (λ x y e. eqb-true x y e) (λ x y e. eqb-true x y e) (λ x y e. eqb-true x y e) in
    let again =
    c.memberships_are_exact-in-Err-take_event.ensures (λ x y e. eqb-true x y e) (λ x y e. eqb-true x y e) (λ x y e. eqb-true x y e) in
    λ broken. stays_new number_tests nat_eq c.args.self.now mid refused new (c.args.content, c.args.configs)
    (c.in-Ok.ensures.initial, refl, λ a n is. is, c.in-Ok.ensures.counting) c.in-Ok.ensures.learned c.in-Ok.ensures.keeps
    (λ exact es keeps. (c.in-Ok.ensures.answer exact es keeps).1) refl refl
    (exact_when _ c.learn-learned.new.self.counting (rw c.configs.ensures at exact))
    (c.in-Err-take_event.ensures.broken broken) (c.forget.ensures.initial, refl, λ a n is. is, c.forget.ensures.counting)
    c.forget.ensures.keeps
    c.forget.ensures.forgotten refl refl (exact_when _ c.forget.new.self.counting (rw c.configs-in-Err-take_event.ensures at again))

pub returns-in-Err-clause-broken : goal.returns-in-Err-clause-broken
returns-in-Err-clause-broken c =
    let new = record c.args.self.now { checker = c.learn-learned.new.self } in
    let exact = c.memberships_are_exact.ensures (λ x y e. eqb-true x y e) (λ x y e. eqb-true x y e) (λ x y e. eqb-true x y e) in
    λ broken. stays_unlearned number_tests c.args.self.now new (c.in-Err.ensures.initial, refl, λ a n is. is, c.in-Err.ensures.counting)
    c.in-Err.ensures.err c.in-Err.ensures.keeps refl refl (exact_when _ c.learn-learned.new.self.counting (rw c.configs.ensures at exact))
