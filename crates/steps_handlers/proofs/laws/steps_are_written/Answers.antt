use Rattle.steps_handlers.proofs.lemmas.WrittenLemmas.{entry_written, vote_written_alone}
use Rattle.steps_handlers.proofs.laws.steps_are_written.Goals as goal

pub returns : goal.returns
returns g c = record {
  vote = vote_written_alone g.L.PartialEq.eq g.L.Committed.PartialEq.eq g.met.L.Eq.laws g.met.L.Committed.Eq.laws;
  entry = entry_written _ g.met.L.Eq.laws g.met.L.Committed.Eq.laws;
}
