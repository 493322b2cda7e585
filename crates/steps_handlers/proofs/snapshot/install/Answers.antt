use Rattle.std.proofs.Common.{true, refl, sym, ◌∙◌}
use Rattle.steps_handlers.proofs.lemmas.SnapshotLemmas.{installs, known_installs}
use Rattle.steps_handlers.proofs.lemmas.TakeLemmas.{logged_is}
use Rattle.steps_handlers.proofs.lemmas.WrittenLemmas.{installed_written, nothing_installed_of}
use Rattle.steps_handlers.proofs.snapshot.install.Goals as goal

pub returns-then-not-log_id_below-clause-installs : goal.returns-then-not-log_id_below-clause-installs
returns-then-not-log_id_below-clause-installs g c =
    known_installs g.NID.PartialEq.eq g.N.PartialEq.eq g.L.PartialEq.eq _ c.args.meta.now c.args.state.now
    (sym c.log_id_below.ensures ∙ c.if-not-log_id_below.true)

pub returns-clause-installs : goal.returns-clause-installs
returns-clause-installs g c =
    installs g.NID.PartialEq.eq g.N.PartialEq.eq g.met.NID.Eq.laws g.met.N.Eq.laws g.L.PartialEq.eq _ c.args.meta.now
    c.in_ok-try_clone.field-0 c.args.state.now c.install_snapshot.new.self c.in_ok-try_clone.ensures
    (sym c.log_id_below.ensures ∙ c.if-not-log_id_below.false) c.in_ok-install_snapshot.ensures.log
    c.in_ok-install_snapshot.ensures.snapshot c.in_ok-install_snapshot.ensures.ok

pub returns-then-not-log_id_below-clause-writes : goal.returns-then-not-log_id_below-clause-writes
returns-then-not-log_id_below-clause-writes g c =
    nothing_installed_of _ c.args.meta.now true c.args.state.now c.args.state.now
    (sym c.log_id_below.ensures ∙ c.if-not-log_id_below.true) refl

pub returns-clause-writes : goal.returns-clause-writes
returns-clause-writes g c =
    let s = c.args.state.now in
    installed_written _ c.args.meta.now s c.install_snapshot.new.self c.is_logged-is_logged.result
    (c.is_logged-is_logged.ensures ∙ logged_is g.L.Committed.PartialEq.eq s c.args.meta.now.last_log_id)
    (sym c.log_id_below.ensures ∙ c.if-not-log_id_below.false)
    (rw c.in_ok-try_clone.ensures.last_log_id at c.in_ok-install_snapshot.ensures.log)
