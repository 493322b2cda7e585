use Rattle.std.proofs.Common.{sym, ◌∙◌}
use Rattle.trace_checker.specs.Checker.{kept_by}
use Rattle.trace_checker.proofs.lemmas.ReadLemmas.{server_entry_read, no_server_log}
use Rattle.trace_checker.proofs.checker.Checker.server_entry.Goals as goal

pub returns-in-Some : goal.returns-in-Some
returns-in-Some g c =
    λ exact es keeps. c.entry_at.ensures
    ∙ server_entry_read _ exact es c.args.id (kept_by c.args.self.now) c.in-Some.i c.args.len c.index.result.now
    (rw c.deref.ensures.value at (sym c.in-Some.ensures)) c.index.ensures keeps

pub returns-in-None : goal.returns-in-None
returns-in-None g c =
    λ exact es keeps. no_server_log _ exact es c.args.id (kept_by c.args.self.now) c.args.len
    (rw c.deref.ensures.value at (sym c.in-None.ensures)) keeps
