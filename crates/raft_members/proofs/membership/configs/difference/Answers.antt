use Rattle.std.proofs.Common.{◌≡◌, sym, ◌∙◌, subst}
use Rattle.std.specs.List.Sorted.{IsStrictlySortedBy}
use Rattle.raft_members.specs.membership.Change.{without}
use Rattle.raft_members.proofs.lemmas.membership.AscendingLemmas.{insert_ahead, none_ahead}
use Rattle.raft_members.proofs.membership.configs.difference.Goals as goal

pub returns : goal.returns
returns g c = none_ahead (without g.ID.PartialEq.eq c.args.these.now.keys c.args.others.now.keys) c.loop-id.set.keys c.loop-id.id-iterator
    c.loop-id.invariant c.in-None.ensures.steps.0

pub loop-id-init : goal.loop-id-init
loop-id-init g c =
    rw c.new-set.ensures.empty (sym (c.into_iter-id-iterator.ensures.into_iter_gives ∙ c.difference-id-items.ensures.rest
    ∙ (λ i. without (λ x y. sym (g.met.ID.Ord.matches_eq x y) i) c.args.these.now.keys c.args.others.now.keys)))

pub loop-id-preserved : goal.loop-id-preserved
loop-id-preserved g c =
    let same : c.difference-id-items.result ≡ without g.ID.PartialEq.eq c.args.these.now.keys c.args.others.now.keys =
    c.difference-id-items.ensures.rest ∙ (λ i. without (λ x y. sym (g.met.ID.Ord.matches_eq x y) i) c.args.these.now.keys
    c.args.others.now.keys) in
    rw c.in_ok-insert.ensures.keys (insert_ahead g.met.ID.Ord.total (without g.ID.PartialEq.eq c.args.these.now.keys c.args.others.now.keys)
    c.loop-id.set.keys c.loop-id.id-iterator c.next.new.self c.in-Some.id.now
    (subst (IsStrictlySortedBy g.ID.Ord.cmp) same c.difference-id-items.ensures.ordered) c.loop-id.invariant c.in-Some.ensures.steps)
