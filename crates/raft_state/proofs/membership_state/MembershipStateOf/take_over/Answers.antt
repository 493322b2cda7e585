use Rattle.std.proofs.Common.{rules}
use Rattle.raft_state.proofs.lemmas.membership_state.EffectLemmas.{effect_stays}
use Rattle.raft_state.proofs.membership_state.MembershipStateOf.take_over.Goals as goal

pub returns-then-not-index_at_most-clause-changed : goal.returns-then-not-index_at_most-clause-changed
returns-then-not-index_at_most-clause-changed g c =
    effect_stays g.C.Ord.cmp g.met.NID.Eq.laws g.met.N.Eq.laws c.args.membership.value c.args.upto c.args.self.now (search rules)
    (search rules)
