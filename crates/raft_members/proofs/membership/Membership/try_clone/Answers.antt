use Rattle.std.proofs.Common.{List, IsTrue, map, ◌∙◌, ap, subst}
use Rattle.raft_members.specs.membership.Members.{same_nodes}
use Rattle.raft_members.proofs.lemmas.membership.KeptLemmas.{equal_members}
use Rattle.raft_members.proofs.membership.Membership.try_clone.Goals as goal

pub returns-clause-equal : goal.returns-clause-equal
returns-clause-equal g c =
    equal_members g.N.PartialEq.eq g.met.NID.Eq.laws c.args.self.now
    (record { configs = map (λ s. s.keys) c.in_ok-configs.configs.items; nodes = c.in_ok-nodes.nodes.entries })
    (c.in_ok-configs.ensures ∙ ap (λ xs. map (λ s. s.keys) xs) c.deref.ensures.value ∙ ap (λ m. m.configs) c.self.view_is)
    (subst (λ (es : List (g.row.NID.Denot × g.row.N.Denot)). IsTrue
    (same_nodes g.NID.PartialEq.eq g.N.PartialEq.eq es c.in_ok-nodes.nodes.entries)) (ap (λ m. m.nodes) c.self.view_is)
    c.in_ok-nodes.ensures.entries)
