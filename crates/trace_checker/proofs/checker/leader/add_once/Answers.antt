use Rattle.trace_checker.proofs.lemmas.CheckerCodeLemmas.{distinct_push}
use Rattle.trace_checker.proofs.checker.leader.add_once.Goals as goal

pub returns-in_ok-push-clause-distinct : goal.returns-in_ok-push-clause-distinct
returns-in_ok-push-clause-distinct g c =
    λ h. rw c.in_ok-push.ensures.items (distinct_push g.N.PartialEq.eq g.met.N.Eq.laws c.args.ids.now.items
    c.args.id h c.contains.result (rw c.deref.ensures.value at c.contains.ensures.value)
    c.if-not-contains.true)
