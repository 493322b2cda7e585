use Rattle.std.proofs.Common.{sym, ◌∙◌, refl}
use Rattle.std.specs.BTreeMap.{is_at}
use Rattle.raft_members.proofs.lemmas.membership.KeptLemmas.{cloned_nodes, equal_lookup}
use Rattle.raft_members.proofs.membership.nodes.copy.Goals as goal

pub returns-then-have_equal_ids : goal.returns-then-have_equal_ids
returns-then-have_equal_ids g c =
    let same = cloned_nodes g.NID.PartialEq.eq g.N.PartialEq.eq g.NID.Clone.is_clone g.N.Clone.is_clone c.requires.clones_are_equal
    c.args.nodes.now.entries c.in_ok-clones.clones.entries c.in_ok-clones.ensures.cases
    (c.if-have_equal_ids.ensures refl) in
    record {
      nodes = λ q.
          equal_lookup g.met.N.Eq.laws (is_at (g.NID.Ord.cmp q))
          (λ x y h. sym (g.met.NID.Ord.matches_eq q x) ∙ g.met.NID.Eq.laws.symm q x ∙ g.met.NID.Eq.laws.congr x y q h
          ∙ g.met.NID.Eq.laws.symm y q ∙ g.met.NID.Ord.matches_eq q y) c.args.nodes.now.entries c.in_ok-clones.clones.entries same;
      entries = same;
    }
