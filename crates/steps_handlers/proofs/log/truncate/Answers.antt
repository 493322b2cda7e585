use Rattle.std.proofs.Common.{refl, sym, ◌∙◌}
use Rattle.steps_handlers.proofs.lemmas.CutLemmas.{truncated_cut}
use Rattle.steps_handlers.proofs.log.truncate.Goals as goal

pub returns-clause-cut : goal.returns-clause-cut
returns-clause-cut g c =
    truncated_cut _ c.args.since c.args.state.now c.truncate_log.new.self c.requires
    (sym c.can_truncate_log.ensures ∙ c.if-not-can_truncate_log.false) c.in_ok-truncate_log.ensures.log c.in_ok-truncate_log.ensures.ok

pub returns-then-not-can_truncate_log-clause-refused : goal.returns-then-not-can_truncate_log-clause-refused
returns-then-not-can_truncate_log-clause-refused g c =
    rw (c.requires, sym c.can_truncate_log.ensures ∙ c.if-not-can_truncate_log.true) refl
