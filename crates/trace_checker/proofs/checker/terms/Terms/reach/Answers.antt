use Rattle.std.proofs.Common.{◌∙◌, ap}
use Rattle.trace_checker.specs.Inner.CheckerState.{kept_after}
use Rattle.trace_checker.specs.Inner.TermsState.{TermsState}
use Rattle.trace_checker.proofs.checker.terms.Terms.reach.Goals as goal

pub invariant_of-self : goal.invariant_of-self
invariant_of-self c = c.leave.ensures.rising c.self.invariant c.args.next c.if-next-self.false

pub returns-clause-kept : goal.returns-clause-kept
returns-clause-kept c =
    λ r. c.leave.ensures.kept c.self.invariant c.args.next r c.if-next-self.false
    ∙ ap (λ (t : TermsState). kept_after t.kept t.term c.args.len c.args.next r) c.self.view_is
