use Rattle.std.proofs.Common.{List, IsTrue, ap, subst}
use Rattle.std.specs.BTreeMap.{get}
use Rattle.std.specs.Option.{option_eq, option_or}
use Rattle.raft_members.specs.membership.Members.{members_of, node_at}
use Rattle.raft_members.proofs.lemmas.membership.AddedLemmas.{option_or_alike}
use Rattle.raft_members.proofs.lemmas.membership.SaysLemmas.{if_says}
use Rattle.raft_members.proofs.membership.Membership.with_added.Goals as goal

pub returns : goal.returns
returns g c =
    if_says g.met.N.Eq.laws g.NID.Ord.cmp (members_of g.NID.Ord.cmp c.args.self.now) (get g.NID.Ord.cmp c.in_ok-merged.field-0)
    (λ id. option_or (node_at g.NID.Ord.cmp c.args.self.now.nodes id) (get g.NID.Ord.cmp c.args.more id)) c.with_only.result
    (λ id. rw (c.in_ok-merged.ensures id)
    (option_or_alike g.met.N.Eq.laws (get g.NID.Ord.cmp c.in_ok-copies.copies id) (node_at g.NID.Ord.cmp c.args.self.now.nodes id)
    (get g.NID.Ord.cmp c.args.more id)
    (subst (λ (es : List (g.row.NID.Denot × g.row.N.Denot)). IsTrue
    (option_eq g.N.PartialEq.eq (get g.NID.Ord.cmp c.in_ok-copies.copies id) (node_at g.NID.Ord.cmp es id)))
    (ap (λ m. m.nodes) c.self.view_is) (c.in_ok-copies.ensures.nodes id))))
    c.with_only.ensures
