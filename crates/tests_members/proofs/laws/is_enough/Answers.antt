use Rattle.std.proofs.Common.{◌∙◌}
use Rattle.raft_members.specs.quorum.AtLeast.{ids_of, need_of}
use Rattle.tests_members.proofs.laws.is_enough.Goals as goal

pub returns : goal.returns
returns g c past distinct = c.is_quorum.ensures.quorum distinct
    ∙ c.need_past_ids_has_no_quorum.ensures (ids_of c.args.quorums.now) (need_of c.args.quorums.now) _ past
