use Rattle.std.proofs.Common.{arith}
use Rattle.trace_checker.specs.Checker.{kept_by}
use Rattle.trace_checker.proofs.lemmas.ReadLemmas.{is_campaigned}
use Rattle.trace_checker.proofs.checker.Checker.newest_leader.Goals as goal

pub returns-then-number-len : goal.returns-then-number-len
returns-then-number-len g c =
    λ exact es keeps. is_campaigned _ exact es (kept_by c.args.self.now) c.args.number c.index-leader.result.now
    (omega arith) c.index-leader.ensures keeps
