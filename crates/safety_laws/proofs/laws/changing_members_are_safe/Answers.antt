use Rattle.safety_laws.proofs.lemmas.ChangeLemmas.{changing_is_safe}
use Rattle.safety_laws.proofs.laws.changing_members_are_safe.Goals as goal

pub returns : goal.returns
returns g c = λ rank config_of initial quorum_of h follows.
    changing_is_safe rank config_of initial quorum_of h follows
