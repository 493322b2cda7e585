use Rattle.std.proofs.Common.{◌≡◌, ◌+◌, ◌≤◌, ◌∙◌, ◌++◌, ap, arith, length, sym, take}
use Rattle.trace_checker.specs.Inner.CheckerState.{same_entry_by}
use Rattle.trace_checker.specs.Inner.Kept.{leader_in, server_in}
use Rattle.trace_checker.specs.Inner.Logs.{log_at}
use Rattle.trace_checker.proofs.lemmas.CheckerLemmas.{append_first}
use Rattle.trace_checker.proofs.lemmas.CommonLemmas.{common_in_b}
use Rattle.trace_checker.proofs.lemmas.StateLemmas.{appends_new, common_takes, keeps_all}
use Rattle.trace_checker.proofs.checker.broken.next_log.Goals as goal

pub returns-then-old-entries-clause-log : goal.returns-then-old-entries-clause-log
returns-then-old-entries-clause-log g c =
    let t = c.args.logs.now in
    let log = log_at t c.args.server.now.log in
    λ rank exact free. let fits : c.args.keep ≤ length log =
    (append_first (same_entry_by g.T.PartialEq.eq g.D.PartialEq.eq) (server_in t c.args.server.now)
    (leader_in t c.args.leader.now) rank c.args.keep
    c.args.entries.now free).1 in
    let small = c.common_with-old.ensures.small fits in
    let sum : c.saturating_add.result ≡ c.args.keep + length c.args.entries.now =
    omega (arith, c.saturating_add.ensures, small, c.if-old-entries.true) in
    c.first.ensures.first ∙ ap (λ m. take m log) sum
    ∙ keeps_all (same_entry_by g.T.PartialEq.eq g.D.PartialEq.eq) exact c.args.keep log c.args.entries.now
    (sym c.common_with-old.ensures.common ∙ c.if-old-entries.true)

pub returns-clause-log : goal.returns-clause-log
returns-clause-log g c =
    let t = c.args.logs.now in
    let log = log_at t c.args.server.now.log in
    let theirs = log_at t c.args.leader.now.log in
    λ rank exact free. let new = appends_new (same_entry_by g.T.PartialEq.eq g.D.PartialEq.eq) (server_in t c.args.server.now)
    (leader_in t c.args.leader.now) rank
    c.args.keep c.args.entries.now free (λ e. c.if-old-entries.false (c.common_with-old.ensures.common ∙ e)) in
    let fits : c.args.keep ≤ length theirs = omega (
      arith,
      new.0,
      common_in_b (same_entry_by g.T.PartialEq.eq g.D.PartialEq.eq)
          log theirs,
    ) in
    let small = c.common_with-new.ensures.small fits in
    let sum : c.saturating_add-2.result ≡ c.args.keep + length c.args.entries.now =
    omega (arith, c.saturating_add-2.ensures, small, c.common_with-new.ensures.common, new.1) in
    c.first-2.ensures.first ∙ ap (λ m. take m theirs) sum
    ∙ keeps_all (same_entry_by g.T.PartialEq.eq g.D.PartialEq.eq) exact c.args.keep theirs c.args.entries.now new.1
    ∙ ap (λ l. l ++ c.args.entries.now) (sym (common_takes (same_entry_by g.T.PartialEq.eq g.D.PartialEq.eq) exact c.args.keep
    log theirs new.0))
