use Rattle.safety_laws.proofs.lemmas.AppendedTraceLemmas.{trace_is_safe}
use Rattle.safety_laws.proofs.laws.traces_are_executions.Goals as goal

pub returns : goal.returns
returns g c = λ tests exact es ranks allowed. trace_is_safe tests exact es ranks allowed
