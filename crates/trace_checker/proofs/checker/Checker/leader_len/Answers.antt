use Rattle.std.proofs.Common.{sym}
use Rattle.trace_checker.specs.Checker.{kept_by}
use Rattle.trace_checker.proofs.lemmas.ReadLemmas.{leader_len_read, no_leader_read}
use Rattle.trace_checker.proofs.checker.Checker.leader_len.Goals as goal

pub returns-in-Some : goal.returns-in-Some
returns-in-Some g c =
    λ exact es keeps. leader_len_read _ exact es c.args.term c.args.id (kept_by c.args.self.now) c.in-Some.j _ c.index.result.now
    (sym (c.in-Some.ensures.place exact.same_term keeps.placed)) c.index.ensures c.len.ensures.len keeps

pub returns-in-None : goal.returns-in-None
returns-in-None g c =
    λ exact es keeps. no_leader_read _ exact es c.args.term c.args.id (kept_by c.args.self.now) _
    (sym (c.in-None.ensures.place exact.same_term keeps.placed)) keeps
