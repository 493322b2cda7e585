use Rattle.raft_members.proofs.lemmas.CloneLemmas.{list_clones}
use Rattle.raft_members.proofs.quorum.joint.Joint+ID+QS+Vec+QS.try_clone.Goals as goal

pub returns : goal.returns
returns g c =
    rw (c.new.ensures, ← c.self.view_is) (list_clones g.QS.PartialEq.eq g.QS.Clone.is_clone c.requires.clones_are_equal
    c.self.inside.children.items
    c.in_ok-children.children.items c.in_ok-children.ensures.cases.0)
