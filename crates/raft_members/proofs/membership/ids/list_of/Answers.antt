use Rattle.std.proofs.Common.{sym, ◌∙◌}
use Rattle.raft_members.proofs.lemmas.membership.AscendingLemmas.{none_ahead, push_ahead}
use Rattle.raft_members.proofs.membership.ids.list_of.Goals as goal

pub returns : goal.returns
returns g c = none_ahead c.args.ids.now.keys c.loop-id.list.items c.loop-id.id-iterator c.loop-id.invariant c.in-None.ensures.steps.0

pub loop-id-init : goal.loop-id-init
loop-id-init g c = rw c.in_ok-list.ensures.items (sym (c.into_iter-id-iterator.ensures.into_iter_gives ∙ c.iter-id-items.ensures.rest))

pub loop-id-preserved : goal.loop-id-preserved
loop-id-preserved g c =
    rw c.in_ok-push.ensures.items (push_ahead c.args.ids.now.keys c.loop-id.list.items c.loop-id.id-iterator c.next.new.self
    c.in-Some.id.now c.loop-id.invariant c.in-Some.ensures.steps)
