use Rattle.std.proofs.Common.{arith, sym, ◌∙◌}
use Rattle.tests_laws.proofs.LeaderLemmas.{may_commit}
use Rattle.tests_laws.proofs.leader.can_commit.Goals as goal

pub returns : goal.returns
returns g c = λ distinct is.
    may_commit g.ID.PartialEq.eq (g.QS.QuorumSet.has_quorum c.args.voters.now) c.args.from c.args.written
    c.args.acked.now c.args.n (omega (arith, c.if-n-from.false)) (omega (arith, c.if-written-n.false))
    (sym (c.is_quorum.ensures.quorum distinct) ∙ is)
