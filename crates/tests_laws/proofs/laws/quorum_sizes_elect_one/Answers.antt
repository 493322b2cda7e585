use Rattle.raft_members.specs.quorum.Majority.{has_at_least}
use Rattle.tests_laws.proofs.laws.quorum_sizes_elect_one.Goals as goal

pub returns : goal.returns
returns g c = λ ids rank size_of initial h follows.
    (c.changing_members_are_safe.ensures rank size_of initial (has_at_least g.ID.PartialEq.eq ids) h
    follows).election_safety
