use Rattle.safety_laws.proofs.lemmas.SettledLemmas.{settled_suffices}
use Rattle.safety_laws.proofs.laws.settled_configs_suffice.Goals as goal

pub returns : goal.returns
returns g c = settled_suffices
