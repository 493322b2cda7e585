use Rattle.safety_laws.proofs.lemmas.AppliedExecutionLemmas.{all_times_agree, execution_is_safe, execution_keeps_facts}
use Rattle.safety_laws.proofs.laws.applied_executions_are_safe.Goals as goal

pub returns-clause-safe : goal.returns-clause-safe
returns-clause-safe g c = λ rank config_of initial quorum_of intersect last earlier execution.
    execution_is_safe rank config_of initial quorum_of intersect last earlier execution

pub returns-clause-stable : goal.returns-clause-stable
returns-clause-stable g c = λ rank config_of initial quorum_of intersect last earlier execution.
    execution_keeps_facts rank config_of initial quorum_of intersect last earlier execution

pub returns-clause-applied : goal.returns-clause-applied
returns-clause-applied g c = λ rank config_of initial quorum_of intersect last earlier execution.
    all_times_agree rank config_of initial quorum_of intersect last earlier execution
