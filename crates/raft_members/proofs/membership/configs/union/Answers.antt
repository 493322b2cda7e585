use Rattle.std.proofs.Common.{sym, ◌∙◌, subst}
use Rattle.std.specs.List.Sorted.{IsStrictlySortedBy}
use Rattle.raft_members.specs.membership.Change.{union_of}
use Rattle.raft_members.proofs.lemmas.membership.AscendingLemmas.{insert_ahead, none_ahead}
use Rattle.raft_members.proofs.membership.configs.union.Goals as goal

pub returns : goal.returns
returns g c = none_ahead (union_of g.ID.Ord.cmp c.args.these.now.keys c.args.others.now.keys) c.loop-id.set.keys c.loop-id.id-iterator
    c.loop-id.invariant c.in-None.ensures.steps.0

pub loop-id-init : goal.loop-id-init
loop-id-init g c = rw c.new-set.ensures.empty (sym (c.into_iter-id-iterator.ensures.into_iter_gives ∙ c.union-id-items.ensures.rest))

pub loop-id-preserved : goal.loop-id-preserved
loop-id-preserved g c =
    rw c.in_ok-insert.ensures.keys (insert_ahead g.met.ID.Ord.total (union_of g.ID.Ord.cmp c.args.these.now.keys c.args.others.now.keys)
    c.loop-id.set.keys c.loop-id.id-iterator c.next.new.self c.in-Some.id.now
    (subst (IsStrictlySortedBy g.ID.Ord.cmp) c.union-id-items.ensures.rest c.union-id-items.ensures.ordered) c.loop-id.invariant
    c.in-Some.ensures.steps)
