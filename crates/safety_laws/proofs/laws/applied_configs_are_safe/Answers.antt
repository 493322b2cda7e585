use Rattle.safety_laws.proofs.lemmas.AppliedLemmas.{applied_is_safe}
use Rattle.safety_laws.proofs.laws.applied_configs_are_safe.Goals as goal

pub returns : goal.returns
returns g c = applied_is_safe
