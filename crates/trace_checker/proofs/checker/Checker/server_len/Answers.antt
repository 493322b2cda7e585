use Rattle.std.proofs.Common.{sym}
use Rattle.trace_checker.specs.Checker.{kept_by}
use Rattle.trace_checker.proofs.lemmas.ReadLemmas.{no_server_len, server_len_read}
use Rattle.trace_checker.proofs.checker.Checker.server_len.Goals as goal

pub returns-in-Some : goal.returns-in-Some
returns-in-Some g c =
    λ exact es keeps. server_len_read _ exact es c.args.id (kept_by c.args.self.now) c.in-Some.i _ c.index.result.now
    (rw c.deref.ensures.value at (sym c.in-Some.ensures)) c.index.ensures c.len.ensures.len keeps

pub returns-in-None : goal.returns-in-None
returns-in-None g c =
    λ exact es keeps. no_server_len _ exact es c.args.id (kept_by c.args.self.now)
    (rw c.deref.ensures.value at (sym c.in-None.ensures)) keeps
