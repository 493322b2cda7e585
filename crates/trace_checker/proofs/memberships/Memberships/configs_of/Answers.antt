use Rattle.std.proofs.Common.{◌∙◌}
use Rattle.trace_checker.proofs.lemmas.IndexLemmas.{held_found, held_nowhere}
use Rattle.trace_checker.proofs.memberships.Memberships.configs_of.Goals as goal

pub returns-in-Some-get : goal.returns-in-Some-get
returns-in-Some-get g c =
    rw c.in-Some.is (c.deref-in-Some-get.ensures.value
    ∙ held_found g.D.PartialEq.eq c.in-Some.content (λ v. v.items) c.args.self.now.held.items c.in-Some-get.configs.now
    c.in-Some-get.ensures)

pub returns-in-None : goal.returns-in-None
returns-in-None g c =
    rw c.in-Some.is (held_nowhere g.D.PartialEq.eq c.in-Some.content (λ v. v.items) c.args.self.now.held.items
    c.in-None.ensures)
