use Rattle.std.proofs.Common.{◌≡◌, ◌+◌, length, inl, refl, arith}
use Rattle.trace_checker.specs.Inner.Nodes.{logs_of}
use Rattle.trace_checker.proofs.lemmas.LogTreeLemmas.{are_tree, logs_len, no_node}
use Rattle.trace_checker.proofs.checker.logs.Logs.count.Goals as goal

pub returns-clause-count : goal.returns-clause-count
returns-clause-count g c =
    let len : length (logs_of c.self.inside.nodes.items).logs ≡ length c.self.inside.nodes.items + 1 =
    logs_len c.self.inside.nodes.items in
    rw (← c.self.view_is) (omega (arith, len))

pub returns-clause-tree : goal.returns-clause-tree
returns-clause-tree g c = are_tree c.self.inside.nodes.items c.args.self.now c.self.invariant.0 c.self.view_is

pub returns-clause-empty : goal.returns-clause-empty
returns-clause-empty g c = (no_node c.self.inside.nodes.items c.args.self.now 0 c.self.view_is (inl refl)).0

pub returns-clause-small : goal.returns-clause-small
returns-clause-small g c = omega (arith, c.self.inside.nodes.ok.1, c.self.inside.nodes.small)
