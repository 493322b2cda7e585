use Rattle.std.proofs.Common.{Bool, sym, ◌∙◌, ap, subst}
use Rattle.std.specs.Set.{is_member}
use Rattle.std.specs.BTreeMap.{get}
use Rattle.std.proofs.lemmas.List.{take_all}
use Rattle.raft_members.specs.membership.Defaults.{WithDefault}
use Rattle.raft_members.proofs.lemmas.membership.DefaultLemmas.{at_start, default_there, default_made}
use Rattle.raft_members.proofs.membership.defaults.with_defaults.Goals as goal

pub returns : goal.returns
returns g c q =
    subst (λ (b : Bool). WithDefault g.N.NodeDefault.is_default_node (get g.NID.Ord.cmp c.args.nodes q) b
    (get g.NID.Ord.cmp c.loop-id.full q)) (ap (λ ks. is_member g.NID.PartialEq.eq ks q)
    (take_all c.loop-id.id-index c.args.ids.now c.loop-id-test.false)) (c.loop-id.invariant q)

pub loop-id-init : goal.loop-id-init
loop-id-init g c q = at_start g.N.NodeDefault.is_default_node (get g.NID.Ord.cmp c.args.nodes q)

pub loop-id-preserved-then-contains_key : goal.loop-id-preserved-then-contains_key
loop-id-preserved-then-contains_key g c q =
    default_there g.N.NodeDefault.is_default_node g.met.NID.Ord.total g.met.NID.Ord.matches_eq c.loop-id.full.entries
    (get g.NID.Ord.cmp c.args.nodes q) c.args.ids.now c.loop-id.id-index c.id-item.result c.loop-id-test.true c.id-item.is q
    (sym c.contains_key.ensures ∙ c.if-contains_key.true) (c.loop-id.invariant q)

pub loop-id-preserved : goal.loop-id-preserved
loop-id-preserved g c q =
    default_made g.N.NodeDefault.is_default_node g.met.NID.Ord.total g.met.NID.Ord.matches_eq c.loop-id.full.entries
    (get g.NID.Ord.cmp c.args.nodes q) c.args.ids.now c.loop-id.id-index c.id-item.result c.loop-id-test.true c.id-item.is q
    c.put_default.new.nodes.entries c.in_ok-put_default.ensures.0 (sym c.contains_key.ensures ∙ c.if-contains_key.false)
    c.in_ok-put_default.ensures.1 c.in_ok-put_default.ensures.2 (c.loop-id.invariant q)
