use Rattle.safety_laws.proofs.lemmas.RankLemmas.{ranked}
use Rattle.safety_laws.proofs.laws.orders_have_ranks.Goals as goal

pub returns : goal.returns
returns g c = λ same used. ranked g.met.C.Ord.total same used
