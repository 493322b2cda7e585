use Rattle.std.proofs.Common.{◌≡◌, ◌&&◌, sym, ◌∙◌, rules}
use Rattle.std.specs.Cmp.Lexicographic.{pointwise}
use Rattle.raft_members.specs.membership.Members.{same_nodes}
use Rattle.raft_members.proofs.lemmas.membership.MappedLemmas.{pointwise-map}
use Rattle.raft_members.proofs.membership.MembershipPartialEq.eq.Goals as goal

pub returns-then-eq : goal.returns-then-eq
returns-then-eq g c =
    let configs : c.eq.result ≡ pointwise (pointwise g.NID.PartialEq.eq) c.args.self.now.configs c.args.other.now.configs =
    c.eq.ensures ∙ pointwise-map (λ s. s.keys) (pointwise g.NID.PartialEq.eq) c.self.inside.configs.items c.other.inside.configs.items
    ∙ (λ i. pointwise (pointwise g.NID.PartialEq.eq) (c.self.view_is i).configs (c.other.view_is i).configs) in
    let nodes : c.eq-then-eq.result ≡ same_nodes g.NID.PartialEq.eq g.N.PartialEq.eq c.args.self.now.nodes c.args.other.now.nodes =
    search rules in
    nodes ∙ (λ i. (sym c.if-eq.true ∙ configs) i
    && same_nodes g.NID.PartialEq.eq g.N.PartialEq.eq c.args.self.now.nodes c.args.other.now.nodes)

pub returns-else-eq : goal.returns-else-eq
returns-else-eq g c =
    let configs : c.eq.result ≡ pointwise (pointwise g.NID.PartialEq.eq) c.args.self.now.configs c.args.other.now.configs =
    c.eq.ensures ∙ pointwise-map (λ s. s.keys) (pointwise g.NID.PartialEq.eq) c.self.inside.configs.items c.other.inside.configs.items
    ∙ (λ i. pointwise (pointwise g.NID.PartialEq.eq) (c.self.view_is i).configs (c.other.view_is i).configs) in
    c.if-eq.false ∙ (λ i. (sym c.if-eq.false ∙ configs) i
    && same_nodes g.NID.PartialEq.eq g.N.PartialEq.eq c.args.self.now.nodes c.args.other.now.nodes)
