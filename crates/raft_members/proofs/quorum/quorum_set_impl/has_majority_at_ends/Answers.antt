use Rattle.std.proofs.Common.{◌≡◌, ◌-◌, ◌||◌, Bool, length, take, rules, arith, ap, ◌∙◌}
use Rattle.std.specs.List.{list_any}
use Rattle.raft_members.proofs.lemmas.quorum.ChunkLemmas.{list_any-ends}
use Rattle.raft_members.proofs.lemmas.quorum.MajorityLemmas.{majority_count}
use Rattle.raft_members.proofs.quorum.quorum_set_impl.has_majority_at_ends.Goals as goal

pub returns : goal.returns
returns g c d =
    let is : g.row.ID.Denot → g.row.ID.Denot → Bool = λ x y. g.ID.PartialEq.eq y x in
    c.has_more_than.ensures (λ x. list_any (is x) c.args.voters.now)
    (λ x b e.
    let at_ends : b ≡ (list_any (is x) c.in-Some-Some.first.now || list_any (is x) c.in-Some-Some.last.now) = search rules in
    at_ends
    ∙ ap (λ ys. list_any (is x) ys || list_any (is x) c.in-Some-Some.last.now) c.in-Some-Some.ensures.cases.same
    ∙ ap (λ ys. list_any (is x) (take g.row.N c.args.voters.now) || list_any (is x) ys) c.in-Some-Some.ensures'.cases.1.same
    ∙ list_any-ends (is x) g.row.N (length c.args.voters.now - g.row.N) c.args.voters.now (omega arith))
    ∙ majority_count g.met.ID.Eq.laws c.args.ids.now c.args.voters.now d
