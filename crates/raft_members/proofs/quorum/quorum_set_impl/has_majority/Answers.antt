use Rattle.std.proofs.Common.{rules, ◌∙◌}
use Rattle.std.specs.List.{list_any}
use Rattle.raft_members.proofs.lemmas.quorum.MajorityLemmas.{majority_count}
use Rattle.raft_members.proofs.quorum.quorum_set_impl.has_majority.Goals as goal

pub returns : goal.returns
returns g c d =
    c.has_more_than.ensures (λ x. list_any (λ y. g.ID.PartialEq.eq y x) c.args.voters.now) (λ x b e. search rules)
    ∙ majority_count g.met.ID.Eq.laws c.args.ids.now c.args.voters.now d
