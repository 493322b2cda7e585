use Rattle.std.proofs.Common.{arith}
use Rattle.tests_laws.proofs.LeaderLemmas.{may_propose}
use Rattle.tests_laws.proofs.leader.can_propose.Goals as goal

pub returns : goal.returns
returns c = λ is.
    may_propose c.args.from c.args.committed c.args.configs (omega (arith, c.if-committed-from.false))
    (omega (arith, c.if-committed-configs.false))
