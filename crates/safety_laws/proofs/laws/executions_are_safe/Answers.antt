use Rattle.safety_laws.proofs.lemmas.ExecutionLemmas.{all_times_agree, execution_is_safe}
use Rattle.safety_laws.proofs.laws.executions_are_safe.Goals as goal

pub returns-clause-safe : goal.returns-clause-safe
returns-clause-safe g c = λ rank config_of initial quorum_of intersect last earlier execution.
    execution_is_safe rank config_of initial quorum_of intersect last earlier execution

pub returns-clause-applied : goal.returns-clause-applied
returns-clause-applied g c = λ rank config_of initial quorum_of intersect last earlier execution.
    all_times_agree rank config_of initial quorum_of intersect last earlier execution
