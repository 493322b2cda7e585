use Rattle.std.specs.Cmp.Lexicographic.{lists_equiv}
use Rattle.raft_members.proofs.CallerLemmas.{next_shares}
use Rattle.safety_laws.proofs.lemmas.JointLemmas.{joint_is_safe}
use Rattle.safety_laws.proofs.laws.joint_members_are_safe.Goals as goal

pub returns-clause-safe : goal.returns-clause-safe
returns-clause-safe g c = λ same rank configs_of initial h follows.
    joint_is_safe g.met.ID.Eq.laws same rank configs_of initial h follows

pub returns-clause-steps : goal.returns-clause-steps
returns-clause-steps g c = λ configs goal some. next_shares (lists_equiv g.met.ID.Eq.laws) configs goal some
