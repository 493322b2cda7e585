use Rattle.raft_members.proofs.lemmas.quorum.InOrderLemmas.{sorted_from_adjacent}
use Rattle.raft_members.proofs.quorum.quorum_set_impl.are_many_in_order.Goals as goal

pub returns-then-voters-gt-MANY : goal.returns-then-voters-gt-MANY
returns-then-voters-gt-MANY g c h =
    sorted_from_adjacent g.met.ID.Ord.total g.ID.PartialOrd.partial_cmp g.met.ID.Ord.matches_partial_cmp c.args.voters.now
    (rw h at c.is_sorted.ensures.cases)
