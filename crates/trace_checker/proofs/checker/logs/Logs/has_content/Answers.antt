use Rattle.std.proofs.Common.{◌∙◌, subst, sym}
use Rattle.trace_checker.specs.Inner.Logs.{AllLogs, AreWithout}
use Rattle.trace_checker.proofs.lemmas.ContentLemmas.{lack_nodes, no_node_of, not_both}
use Rattle.trace_checker.proofs.checker.logs.Logs.has_content.Goals as goal

pub returns-clause-yes : goal.returns-clause-yes
returns-clause-yes g c =
    let same = g.D.PartialEq.eq in
    λ yes without. not_both c.contains.result yes
    (c.contains.ensures ∙ c.self.invariant.1 c.args.content ∙ no_node_of same c.args.content c.self.inside.nodes.items
    (subst (λ (t : AllLogs g.row.T.Denot g.row.D.Denot). AreWithout same t c.args.content) (sym c.self.view_is) without))

pub returns-clause-no : goal.returns-clause-no
returns-clause-no g c =
    let same = g.D.PartialEq.eq in
    λ no. subst (λ (t : AllLogs g.row.T.Denot g.row.D.Denot). AreWithout same t c.args.content) c.self.view_is
    (lack_nodes same c.args.content c.self.inside.nodes.items
    (sym (c.self.invariant.1 c.args.content) ∙ sym c.contains.ensures ∙ no))
