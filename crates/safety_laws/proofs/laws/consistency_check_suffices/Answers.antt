use Rattle.safety_laws.specs.Facts.{appended}
use Rattle.safety_laws.proofs.lemmas.AppendLemmas.{check_suffices}
use Rattle.safety_laws.proofs.laws.consistency_check_suffices.Goals as goal

pub returns : goal.returns
returns g c = λ rank quorum h follows safe. check_suffices rank (appended quorum) h follows safe
