use Rattle.std.proofs.Common.{sym}
use Rattle.trace_checker.specs.Checker.{kept_by}
use Rattle.trace_checker.proofs.lemmas.CheckerStepLemmas.{exact_entries}
use Rattle.trace_checker.proofs.lemmas.ReadLemmas.{common_read, no_leader_common, no_server_common}
use Rattle.trace_checker.proofs.checker.Checker.common_len.Goals as goal

pub returns : goal.returns
returns g c =
    λ exact es keeps. common_read _ exact es c.args.server c.args.term c.args.leader (kept_by c.args.self.now) c.in-Some.i
    c.in-Some-leader_at.j c.common_len.result c.index.result.now c.index-2.result.now
    (rw c.deref.ensures.value at (sym c.in-Some.ensures)) c.index.ensures
    (sym (c.in-Some-leader_at.ensures.place exact.same_term keeps.placed)) c.index-2.ensures keeps
    (c.common_len.ensures.common (exact_entries _ exact) keeps.are_logs.distinct)

pub returns-in-None : goal.returns-in-None
returns-in-None g c =
    λ exact es keeps. no_server_common _ exact es c.args.server c.args.term c.args.leader (kept_by c.args.self.now)
    (rw c.deref.ensures.value at (sym c.in-None.ensures)) keeps

pub returns-in-None-leader_at : goal.returns-in-None-leader_at
returns-in-None-leader_at g c =
    λ exact es keeps. no_leader_common _ exact es c.args.server c.args.term c.args.leader (kept_by c.args.self.now)
    (sym (c.in-None-leader_at.ensures.place exact.same_term keeps.placed)) keeps
