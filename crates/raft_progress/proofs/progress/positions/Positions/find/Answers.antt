use Rattle.std.proofs.Common.{◌∙◌}
use Rattle.raft_progress.specs.Inner.Positions.{position_in}
use Rattle.raft_progress.proofs.lemmas.progress.positions.PositionsLemmas.{position_is}
use Rattle.raft_progress.proofs.progress.positions.Positions.find.Goals as goal

pub returns-in-Some : goal.returns-in-Some
returns-in-Some g c = (rw c.deref.ensures.value at c.in-Some.ensures) ∙ position_is g.met.ID.Eq.laws c.args.entries.now
    (position_in g.ID.PartialEq.eq c.args.self.now.sorted.items) (c.requires c.if-not-self.true) c.args.id.now

pub returns : goal.returns
returns g c = c.find_among_many.ensures ∙ position_is g.met.ID.Eq.laws c.args.entries.now
    (position_in g.ID.PartialEq.eq c.args.self.now.sorted.items) (c.requires c.if-self.false) c.args.id.now
