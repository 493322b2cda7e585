use Rattle.raft_members.proofs.lemmas.membership.AscendingLemmas.{insert_behind}
use Rattle.std.specs.Iterator.Adapters.{rev_source}
use Rattle.raft_members.proofs.membership.ids.copy.Goals as goal

pub loop-id-preserved : goal.loop-id-preserved
loop-id-preserved g c =
    rw c.in_ok-insert.ensures.keys (insert_behind g.ID.Ord.cmp c.args.ids.now.keys (rev_source c.loop-id.id-iterator) c.loop-id.set.keys
    (rev_source c.next.new.self) c.in-Some.id.now c.iter.ensures.ordered c.loop-id.invariant c.in-Some.ensures.steps)
