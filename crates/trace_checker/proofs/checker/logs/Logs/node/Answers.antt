use Rattle.std.proofs.Common.{length, ◌<◌, inl, inr, arith}
use Rattle.trace_checker.proofs.lemmas.LogTreeLemmas.{no_node}
use Rattle.trace_checker.proofs.checker.logs.Logs.node.Goals as goal

pub returns-then-log-eq0-clause-none : goal.returns-then-log-eq0-clause-none
returns-then-log-eq0-clause-none g c =
    λ e. (no_node c.self.inside.nodes.items c.args.self.now c.args.log c.self.view_is (inl c.if-log-eq0.true)).0

pub returns-then-log-eq0-clause-no_config : goal.returns-then-log-eq0-clause-no_config
returns-then-log-eq0-clause-no_config g c =
    λ e. (no_node c.self.inside.nodes.items c.args.self.now c.args.log c.self.view_is (inl c.if-log-eq0.true)).1

pub returns-then-count-log-clause-none : goal.returns-then-count-log-clause-none
returns-then-count-log-clause-none g c =
    let past : length c.self.inside.nodes.items < c.args.log = omega arith in
    λ e. (no_node c.self.inside.nodes.items c.args.self.now c.args.log c.self.view_is (inr past)).0

pub returns-then-count-log-clause-no_config : goal.returns-then-count-log-clause-no_config
returns-then-count-log-clause-no_config g c =
    let past : length c.self.inside.nodes.items < c.args.log = omega arith in
    λ e. (no_node c.self.inside.nodes.items c.args.self.now c.args.log c.self.view_is (inr past)).1
