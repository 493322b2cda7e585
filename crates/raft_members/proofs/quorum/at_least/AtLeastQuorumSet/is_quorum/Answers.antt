use Rattle.std.proofs.Common.{rules, ◌∙◌}
use Rattle.std.specs.List.{list_any}
use Rattle.raft_members.proofs.lemmas.quorum.AtLeastLemmas.{at_least_count}
use Rattle.raft_members.proofs.lemmas.quorum.InOrderLemmas.{sorted_from_ascending}
use Rattle.raft_members.proofs.quorum.at_least.AtLeastQuorumSet.is_quorum.Goals as goal

pub returns : goal.returns
returns g c = record {
  quorum = λ d.
      let up = sorted_from_ascending g.met.ID.Ord.total c.args.self.now.ids.items c.args.self.now.ascending in
      c.has_more_than.ensures (λ x. list_any (λ y. g.ID.PartialEq.eq y x) c.args.self.now.ids.items) (λ x b e. search (rules, up))
      ∙ at_least_count g.met.ID.Eq.laws c.args.ids.now c.args.self.now.ids.items c.args.self.now.need c.args.self.now.needs_one d;
}
