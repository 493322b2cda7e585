use Rattle.std.proofs.Common.{◌≡◌, ◌+◌, ◌∙◌, if◌then◌else◌, ap, arith, length, refl, subst, sym}
use Rattle.trace_checker.specs.Inner.Logs.{AllLogs, HasNoChild, config_at}
use Rattle.trace_checker.specs.declared.checker.node.Node.{Node}
use Rattle.trace_checker.proofs.lemmas.ChildLemmas.{child_added, is_child}
use Rattle.trace_checker.proofs.lemmas.ContentLemmas.{contents_push}
use Rattle.trace_checker.proofs.lemmas.LogTreeLemmas.{FitsAfter, logs_len, nodes_push}
use Rattle.trace_checker.proofs.checker.logs.Logs.child.Goals as goal

pub invariant_of-self : goal.invariant_of-self
invariant_of-self g c = rw (c.in_err-add_node.ensures.err.0, c.in_err-add_node.ensures.err.1) c.self.invariant

pub invariant_of-self-2 : goal.invariant_of-self-2
invariant_of-self-2 g c =
    let ns = c.self.inside.nodes.items in
    let node : Node g.row.T.Denot g.row.D.Denot = record {
      parent = c.known-parent.result;
      jump = c.next_jump.result;
      len = c.len.result + 1;
      config = c.next_config.result;
      entry = c.args.entry;
    } in
    let count : length c.args.self.now.logs ≡ length ns + 1 =
    ap (λ (t : AllLogs g.row.T.Denot g.row.D.Denot). length t.logs) (sym c.self.view_is) ∙ logs_len ns in
    let fits : FitsAfter c.args.self.now (length ns + 1) node = record {
      parent = omega (arith, count, c.known-parent.ensures.within);
      jump = omega (arith, count, c.known-parent.ensures.within, c.next_jump.ensures.earlier);
      len = ap (λ n. n + 1) c.len.ensures.len;
      short = omega (arith, count, c.known-parent.ensures.within, c.len.ensures.short);
      jumps = c.next_jump.ensures.jump;
    } in
    rw c.in_ok-add_node.ensures.nodes (
      nodes_push ns node c.self.invariant.0
          (subst (λ (t : AllLogs g.row.T.Denot g.row.D.Denot). FitsAfter t (length ns + 1) node) (sym c.self.view_is) fits),
      contents_push g.D.PartialEq.eq g.D.Ord.cmp c.self.inside.contents.keys c.add_node.new.contents.keys ns node
          c.entry.inside.content (ap (λ e. e.content) c.entry.view_is) c.self.invariant.1 c.in_ok-add_node.ensures.contents,
    )

pub returns-in-Some-clause-child : goal.returns-in-Some-clause-child
returns-in-Some-clause-child g c =
    λ holds exact are within is_config. is_child holds c.args.self.now c.args.log c.in-Some.child c.args.entry are
    c.in-Some.ensures.within (rw (c.known-parent.ensures.same within) at (c.in-Some.ensures.some exact))

pub returns-clause-child : goal.returns-clause-child
returns-clause-child g c =
    let node : Node g.row.T.Denot g.row.D.Denot = record {
      parent = c.known-parent.result;
      jump = c.next_jump.result;
      len = c.len.result + 1;
      config = c.next_config.result;
      entry = c.args.entry;
    } in
    let t = c.args.self.now in
    λ holds exact are within is_config. let same : c.known-parent.result ≡ c.args.log = c.known-parent.ensures.same within in
    let none : HasNoChild t c.args.log c.args.entry =
    subst (λ i. HasNoChild t i c.args.entry) same
    (c.in-None.ensures.none refl exact are.distinct c.known-parent.ensures.within) in
    rw c.in_ok-add_node.ensures.nodes (child_added holds c.self.inside.nodes.items t c.args.log (c.count-next.result + 1)
    c.args.is_config node c.args.entry c.self.view_is same refl
    (c.next_config.ensures ∙ ap (λ i. if c.args.is_config then length t.logs else config_at t i) same)
    c.count-next.ensures.count are within is_config none)
