use Rattle.std.proofs.Common.{◌≡◌, ◌∙◌, ◌||◌, ap, map, subst, sym}
use Rattle.trace_checker.specs.Inner.CheckerState.{same_entry_by}
use Rattle.trace_checker.specs.Inner.Known.{AreUpTo, any_covers, commit_in}
use Rattle.trace_checker.specs.Inner.Logs.{config_at, log_at}
use Rattle.trace_checker.proofs.lemmas.KnownLemmas.{config_none, config_some}
use Rattle.trace_checker.proofs.lemmas.UpToLemmas.{none_covers}
use Rattle.trace_checker.proofs.checker.known.is_known.Goals as goal

pub returns-then-config-eq0 : goal.returns-then-config-eq0
returns-then-config-eq0 g c =
    let covered = any_covers (same_entry_by g.T.PartialEq.eq g.D.PartialEq.eq) c.args.rank c.args.counted_at
    (log_at c.args.logs.now c.args.log) (map (commit_in c.args.logs.now) c.args.commits.now) in
    λ holds exact are within.
    let none : config_at c.args.logs.now c.args.log ≡ 0 = sym c.config.ensures ∙ c.if-config-eq0.true in
    sym (ap (λ b. b || covered) (config_none holds c.args.logs.now c.args.log are within none))

pub returns-then-log-count : goal.returns-then-log-count
returns-then-log-count g c =
    let same = same_entry_by g.T.PartialEq.eq g.D.PartialEq.eq in
    let logs = c.args.logs.now in
    λ holds exact are within.
    let up : AreUpTo c.commits.inside.greatest c.args.commits.now =
    subst (λ l. AreUpTo c.commits.inside.greatest l) c.commits.view_is c.commits.invariant in
    let no_config = config_some holds logs c.args.log are within (λ e. c.if-config-eq0.false (c.config.ensures ∙ e)) in
    let none =
    none_covers same exact holds logs c.count.ensures.tree are c.args.log within c.args.rank c.args.counted_at
    c.commits.inside.greatest c.args.commits.now up c.if-commits-log.true in
    sym (λ q. no_config q || none q)

pub returns : goal.returns
returns g c =
    let same = same_entry_by g.T.PartialEq.eq g.D.PartialEq.eq in
    let logs = c.args.logs.now in
    let covered = any_covers same c.args.rank c.args.counted_at (log_at logs c.args.log)
    (map (commit_in logs) c.args.commits.now) in
    λ holds exact are within.
    c.is_covered.ensures exact are.distinct
    ∙ ap (λ l. any_covers same c.args.rank c.args.counted_at (log_at logs c.args.log) (map (commit_in logs) l))
    (c.deref.ensures.value ∙ c.commits.view_is)
    ∙ sym (ap (λ b. b || covered) (config_some holds logs c.args.log are within
    (λ e. c.if-config-eq0.false (c.config.ensures ∙ e))))
