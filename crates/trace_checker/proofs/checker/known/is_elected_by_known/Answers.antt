use Rattle.std.proofs.Common.{◌<◌, ◌∙◌, List, ap, arith, length, map, refl, sym, take}
use Rattle.std.specs.Set.{is_member}
use Rattle.safety_laws.specs.Log.{Entry}
use Rattle.safety_laws.specs.AppliedTrace.{some_upto}
use Rattle.trace_checker.specs.Checker.{tests_when}
use Rattle.trace_checker.specs.Inner.CheckerState.{same_entry_by}
use Rattle.trace_checker.specs.Inner.Known.{commit_in}
use Rattle.trace_checker.specs.Inner.Logs.{log_at}
use Rattle.safety_laws.specs.declared.counting.ConfigsCount.TheVariants.{WhenApplied}
use Rattle.trace_checker.proofs.lemmas.ConfigBeforeLemmas.{IsConfigBefore}
use Rattle.trace_checker.proofs.lemmas.KnownElectionLemmas.{before_elects, elected_test, elects_at, last_elects}
use Rattle.trace_checker.proofs.checker.known.is_elected_by_known.Goals as goal

pub returns-then-is_elected_by : goal.returns-then-is_elected_by
returns-then-is_elected_by g c =
    let t = c.args.logs.now in
    let holds = g.C.Configs.holds_config c.args.configs.now in
    let same = same_entry_by g.T.PartialEq.eq g.D.PartialEq.eq in
    let quorum = g.C.Configs.has_quorum c.args.configs.now in
    let rank = g.T.Term.rank c.args.leader.now.term in
    let commits = map (commit_in t) c.args.commits.now in
    let voters = is_member g.N.PartialEq.eq c.args.leader.now.voters.items in
    let k = tests_when WhenApplied (record { eq = g.T.PartialEq.eq; rank = g.T.Term.rank }) g.N.PartialEq g.D.PartialEq g.C.Configs
    c.args.configs.now in
    λ exact are within distinct.
    let in_logs : c.first-log.result < length t.logs = omega (arith, c.first-log.ensures.earlier, within) in
    let config_in_logs : c.config.result < length t.logs =
    omega (arith, c.config.ensures, are.config_first c.first-log.result in_logs, in_logs) in
    last_elects same holds quorum rank commits voters t c.first-log.result are in_logs c.config.result c.config.ensures
    (sym (c.is_elected_by.ensures holds exact are config_in_logs distinct) ∙ c.if-is_elected_by.true)
    ∙ ap (λ (l : List (Entry g.row.T.Denot g.row.D.Denot)). some_upto (length l) (elects_at same holds quorum rank commits l voters))
    c.first-log.ensures.first
    ∙ sym (elected_test k holds (λ d. refl) refl commits c.args.leader.now.term
    (take c.args.leader.now.start (log_at t c.args.leader.now.log)) voters)

pub returns : goal.returns
returns g c =
    let t = c.args.logs.now in
    let holds = g.C.Configs.holds_config c.args.configs.now in
    let same = same_entry_by g.T.PartialEq.eq g.D.PartialEq.eq in
    let quorum = g.C.Configs.has_quorum c.args.configs.now in
    let rank = g.T.Term.rank c.args.leader.now.term in
    let commits = map (commit_in t) c.args.commits.now in
    let voters = is_member g.N.PartialEq.eq c.args.leader.now.voters.items in
    let k = tests_when WhenApplied (record { eq = g.T.PartialEq.eq; rank = g.T.Term.rank }) g.N.PartialEq g.D.PartialEq g.C.Configs
    c.args.configs.now in
    λ exact are within distinct.
    let in_logs : c.first-log.result < length t.logs = omega (arith, c.first-log.ensures.earlier, within) in
    let config_in_logs : c.config.result < length t.logs =
    omega (arith, c.config.ensures, are.config_first c.first-log.result in_logs, in_logs) in
    let before : IsConfigBefore holds t c.first-log.result c.config_before.result = record {
      earlier = c.config_before.ensures.config holds are in_logs;
      at_most_one = c.config_before.ensures.at_most_one holds are in_logs;
      is = c.config_before.ensures.is holds are in_logs;
    } in
    let before_in_logs : c.config_before.result < length t.logs =
    omega (arith, before.earlier, c.config.ensures, config_in_logs) in
    c.is_elected_by-2.ensures holds exact are before_in_logs distinct
    ∙ before_elects same holds quorum rank commits voters t c.first-log.result are in_logs c.config.result c.config_before.result
    c.config.ensures
    (sym (c.is_elected_by.ensures holds exact are config_in_logs distinct) ∙ c.if-is_elected_by.false) before
    ∙ ap (λ (l : List (Entry g.row.T.Denot g.row.D.Denot)). some_upto (length l) (elects_at same holds quorum rank commits l voters))
    c.first-log.ensures.first
    ∙ sym (elected_test k holds (λ d. refl) refl commits c.args.leader.now.term
    (take c.args.leader.now.start (log_at t c.args.leader.now.log)) voters)
