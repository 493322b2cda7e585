use Rattle.std.proofs.Common.{Bool, ◌∙◌, ap, subst}
use Rattle.std.specs.Set.{is_member}
use Rattle.std.specs.BTreeMap.{get}
use Rattle.raft_members.specs.membership.Defaults.{WithDefault}
use Rattle.raft_members.proofs.membership.defaults.with_voters.Goals as goal

pub returns : goal.returns
returns g c q =
    subst (λ (b : Bool). WithDefault g.N.NodeDefault.is_default_node (get g.NID.Ord.cmp c.args.nodes q) b
    (get g.NID.Ord.cmp c.in_ok-full.full q))
    (ap (λ ks. is_member g.NID.PartialEq.eq ks q) c.deref.ensures.value ∙ c.in_ok-voters.ensures.voters q) (c.in_ok-full.ensures q)
