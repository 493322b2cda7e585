use Rattle.safety_laws.proofs.lemmas.FixedLemmas.{fixed_is_safe}
use Rattle.safety_laws.proofs.laws.fixed_members_are_safe.Goals as goal

pub returns : goal.returns
returns g c = λ rank quorum intersect h follows. fixed_is_safe rank quorum h follows intersect
