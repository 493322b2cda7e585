use Rattle.std.specs.Cmp.{upto}
use Rattle.raft_base.specs.LogIdLawful.{optional-log_id_cmp-total}
use Rattle.tests_base.proofs.order.in_turn.Goals as goal

pub returns : goal.returns
returns g c =
    rw c.compare_optional_log_ids.ensures (upto (optional-log_id_cmp-total g.met.C.Ord.total) _ _ _ c.requires.first c.requires.second)
