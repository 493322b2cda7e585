use Rattle.std.proofs.Common.{arith}
use Rattle.tests_laws.proofs.FollowerLemmas.{last_is}
use Rattle.tests_laws.proofs.follower.last_term_of.Goals as goal

pub returns-else-len-eq0 : goal.returns-else-len-eq0
returns-else-len-eq0 c = last_is c.args.log.now (omega arith)
