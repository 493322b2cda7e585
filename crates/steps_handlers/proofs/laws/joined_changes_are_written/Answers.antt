use Rattle.steps_handlers.proofs.lemmas.WrittenLemmas.{joined_written}
use Rattle.steps_handlers.proofs.laws.joined_changes_are_written.Goals as goal

pub returns : goal.returns
returns g c = joined_written g.L.PartialEq.eq g.L.Committed.PartialEq.eq g.met.L.Eq.laws g.met.L.Committed.Eq.laws
