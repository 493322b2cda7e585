use Rattle.std.proofs.Common.{rules, ltb, ap, ◌∙◌, ◌/◌}
use Rattle.std.specs.List.{count_by}
use Rattle.std.specs.BTreeSet.{contains_by}
use Rattle.raft_members.proofs.lemmas.quorum.MajorityLemmas.{set_majority}
use Rattle.raft_members.proofs.quorum.quorum_set_impl.BTreeSetQuorumSet.is_quorum.Goals as goal

pub returns : goal.returns
returns g c = record {
  quorum = λ d.
      c.has_more_than.ensures (λ x. contains_by (g.ID.Ord.cmp x) c.args.self.now) (λ x b e. search rules)
      ∙ ap (λ n. ltb (n / 2) (count_by (λ x. contains_by (g.ID.Ord.cmp x) c.args.self.now) c.args.ids.now)) c.len.ensures.len
      ∙ set_majority g.met.ID.Eq.laws g.ID.Ord.cmp g.met.ID.Ord.matches_eq c.args.ids.now c.args.self.now.keys d;
}
