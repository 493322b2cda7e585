use Rattle.safety_laws.specs.Facts.{appended}
use Rattle.safety_laws.proofs.lemmas.ApplyLemmas as lemmas
use Rattle.safety_laws.proofs.laws.state_machines_agree.Goals as goal

pub returns : goal.returns
returns g c = λ rank quorum h follows safe. lemmas.state_machines_agree rank (appended quorum) h follows safe
