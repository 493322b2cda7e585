use Rattle.std.proofs.Common.{◌∙◌, ap, min}
use Rattle.trace_checker.specs.Inner.CheckerState.{kept_from}
use Rattle.trace_checker.specs.Inner.TermsState.{TermsState}
use Rattle.trace_checker.proofs.lemmas.TermsLemmas.{kept_lowered, rising_lowered}
use Rattle.trace_checker.proofs.checker.terms.Terms.keep_at_most.Goals as goal

pub invariant_of-self : goal.invariant_of-self
invariant_of-self c =
    rw (c.lower.ensures c.self.inside.term c.self.invariant)
    (rising_lowered c.args.len c.self.inside.term c.self.inside.kept.items c.self.invariant)

pub returns-clause-kept : goal.returns-clause-kept
returns-clause-kept c =
    λ r. rw (c.lower.ensures c.self.inside.term c.self.invariant)
    (kept_lowered c.args.len c.self.inside.term r c.self.inside.kept.items c.self.invariant
    ∙ ap (λ (t : TermsState). min (kept_from 0 t.kept r) c.args.len) c.self.view_is)
