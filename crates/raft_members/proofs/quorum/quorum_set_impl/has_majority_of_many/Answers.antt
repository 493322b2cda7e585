use Rattle.std.proofs.Common.{rules, ◌∙◌}
use Rattle.std.specs.List.{list_any}
use Rattle.std.specs.List.Sorted.{IsSorted}
use Rattle.raft_members.proofs.lemmas.quorum.MajorityLemmas.{majority_count}
use Rattle.raft_members.proofs.quorum.quorum_set_impl.has_majority_of_many.Goals as goal

pub returns-then-are_many_in_order : goal.returns-then-are_many_in_order
returns-then-are_many_in_order g c d =
    let up : IsSorted g.ID.Ord.cmp c.args.voters.now = c.are_many_in_order.ensures c.if-are_many_in_order.true in
    c.has_more_than.ensures (λ x. list_any (λ y. g.ID.PartialEq.eq y x) c.args.voters.now) (λ x b e. search (rules, up))
    ∙ majority_count g.met.ID.Eq.laws c.args.ids.now c.args.voters.now d

pub returns : goal.returns
returns g c d =
    c.has_more_than-2.ensures (λ x. list_any (λ y. g.ID.PartialEq.eq y x) c.args.voters.now) (λ x b e. search rules)
    ∙ majority_count g.met.ID.Eq.laws c.args.ids.now c.args.voters.now d
