use Rattle.std.proofs.Common.{◌∙◌, ap, nat_eq}
use Rattle.std.specs.Map.{lookup}
use Rattle.trace_checker.specs.Checker.{configs_of}
use Rattle.trace_judge.proofs.lemmas.RunLemmas.{among_copied}
use Rattle.trace_judge.proofs.judge.held_by.Goals as goal

pub returns : goal.returns
returns c =
    among_copied c.args.content (configs_of c.args.checker.now).held.items c.get.result
    (c.get.ensures ∙ ap (λ m. lookup (λ d. nat_eq d c.args.content) m.held.items) c.configs.ensures)
