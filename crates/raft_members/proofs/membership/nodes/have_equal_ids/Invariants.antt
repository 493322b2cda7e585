use Rattle.std.specs.Map.{keys_of}
use Rattle.std.specs.Iterator.Adapters.{rev_source}
use Rattle.raft_members.proofs.lemmas.membership.KeptLemmas.{AgreeBehind}
use Rattle.raft_members.proofs.membership.nodes.have_equal_ids.Given as goal

abbrev pub invariant-loop-id : goal.invariant-loop-id
invariant-loop-id g l =
    AgreeBehind g.NID.PartialEq.eq (keys_of l.nodes.entries) (keys_of l.clones.entries) (rev_source l.id-iterator) (rev_source l.rest)
