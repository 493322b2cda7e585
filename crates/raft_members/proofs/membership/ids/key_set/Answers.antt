use Rattle.std.proofs.Common.{sym, ◌∙◌}
use Rattle.std.specs.BTreeMap.{keys}
use Rattle.raft_members.proofs.lemmas.membership.AscendingLemmas.{insert_ahead, none_ahead}
use Rattle.raft_members.proofs.membership.ids.key_set.Goals as goal

pub returns : goal.returns
returns g c = none_ahead (keys c.args.nodes.now) c.loop-id.set.keys c.loop-id.id-iterator c.loop-id.invariant c.in-None.ensures.steps.0

pub loop-id-init : goal.loop-id-init
loop-id-init g c = rw c.new-set.ensures.empty (sym (c.into_iter-id-iterator.ensures.into_iter_gives ∙ c.keys-id-items.ensures.rest))

pub loop-id-preserved : goal.loop-id-preserved
loop-id-preserved g c =
    rw c.in_ok-insert.ensures.keys (insert_ahead g.met.ID.Ord.total (keys c.args.nodes.now) c.loop-id.set.keys c.loop-id.id-iterator
    c.next.new.self c.in-Some.id.now c.keys-id-items.ensures.ordered c.loop-id.invariant c.in-Some.ensures.steps)
