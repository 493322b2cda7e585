use Rattle.safety_laws.proofs.lemmas.ExecutionLemmas.{execution_keeps_facts}
use Rattle.safety_laws.proofs.laws.facts_are_stable.Goals as goal

pub returns : goal.returns
returns g c = λ rank config_of initial quorum_of intersect last earlier execution.
    execution_keeps_facts rank config_of initial quorum_of intersect last earlier execution
