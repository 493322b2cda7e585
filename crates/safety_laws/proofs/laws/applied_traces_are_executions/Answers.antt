use Rattle.safety_laws.proofs.lemmas.AppliedTraceLemmas.{trace_is_safe}
use Rattle.safety_laws.proofs.laws.applied_traces_are_executions.Goals as goal

pub returns : goal.returns
returns g c = λ tests exact es ranks allowed. trace_is_safe tests exact es ranks allowed
