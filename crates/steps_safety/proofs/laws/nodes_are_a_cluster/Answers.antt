use Rattle.steps_safety.proofs.LawLemmas.{nodes_cluster}
use Rattle.steps_safety.proofs.laws.nodes_are_a_cluster.Goals as goal

pub returns : goal.returns
returns g c =
    nodes_cluster _ g.met.L.LeaderIdentity.made (assumption (c.requires))
