use Rattle.std.proofs.Common.{true, false, List, cond, None, IsTrue, refl, ap, subst}
use Rattle.std.specs.BTreeMap.{get}
use Rattle.std.specs.BTreeSet.{contains}
use Rattle.std.specs.Option.{option_eq}
use Rattle.raft_members.specs.membership.Members.{members_of, node_at}
use Rattle.raft_members.proofs.lemmas.membership.SaysLemmas.{if_says}
use Rattle.raft_members.proofs.membership.Membership.without_nodes.Goals as goal

pub returns : goal.returns
returns g c =
    if_says g.met.N.Eq.laws g.NID.Ord.cmp (members_of g.NID.Ord.cmp c.args.self.now) (get g.NID.Ord.cmp c.remove_all.new.nodes)
    (λ id. cond (contains g.NID.Ord.cmp c.args.ids.now id) None (node_at g.NID.Ord.cmp c.args.self.now.nodes id)) c.with_only.result
    (λ id. rw (c.remove_all.ensures id) (elim (contains g.NID.Ord.cmp c.args.ids.now id) as
    (λ b. IsTrue (option_eq g.N.PartialEq.eq (cond b None (get g.NID.Ord.cmp c.in_ok-nodes.nodes id))
    (cond b None (node_at g.NID.Ord.cmp c.args.self.now.nodes id)))) [
      | true ↦ refl
      | false ↦ subst (λ (es : List (g.row.NID.Denot × g.row.N.Denot)). IsTrue
          (option_eq g.N.PartialEq.eq (get g.NID.Ord.cmp c.in_ok-nodes.nodes id) (node_at g.NID.Ord.cmp es id)))
          (ap (λ m. m.nodes) c.self.view_is) (c.in_ok-nodes.ensures.nodes id)
    ]))
    c.with_only.ensures
