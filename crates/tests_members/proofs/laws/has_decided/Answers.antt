use Rattle.std.proofs.Common.{sym, ◌∙◌}
use Rattle.tests_members.proofs.laws.has_decided.Goals as goal

pub returns : goal.returns
returns g c distinct decided =
    let m = c.majority_has_voter.ensures c.args.config.now.items _ (sym (c.is_quorum.ensures.quorum distinct) ∙ decided) in
    (m.0, m.1, m.2)
