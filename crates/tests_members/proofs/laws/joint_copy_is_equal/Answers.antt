use Rattle.raft_members.proofs.CallerLemmas.{at_least_clones}
use Rattle.tests_members.proofs.laws.joint_copy_is_equal.Goals as goal

pub try_clone-requires : goal.try_clone-requires
try_clone-requires g c = record { clones_are_equal = at_least_clones g.met.ID.Eq.laws }
