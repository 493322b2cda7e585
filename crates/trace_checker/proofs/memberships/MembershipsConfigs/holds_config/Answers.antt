use Rattle.std.proofs.Common.{◌∙◌}
use Rattle.trace_checker.proofs.lemmas.IndexLemmas.{any_copied}
use Rattle.trace_checker.proofs.memberships.MembershipsConfigs.holds_config.Goals as goal

pub returns : goal.returns
returns g c =
    c.is_some.ensures
    ∙ any_copied (λ d. g.D.PartialEq.eq d c.args.content) c.args.self.now.held.items c.get.result c.get.ensures
