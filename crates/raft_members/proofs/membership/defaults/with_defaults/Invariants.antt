use Rattle.std.proofs.Common.{take}
use Rattle.std.specs.Set.{is_member}
use Rattle.std.specs.BTreeMap.{get}
use Rattle.raft_members.specs.membership.Defaults.{WithDefault}
use Rattle.raft_members.proofs.membership.defaults.with_defaults.Given as goal

abbrev pub invariant-loop-id : goal.invariant-loop-id
invariant-loop-id g l = (q : g.row.NID.Denot)
    → WithDefault g.N.NodeDefault.is_default_node (get g.NID.Ord.cmp l.fn.nodes q) (is_member g.NID.PartialEq.eq (take l.id-index l.ids) q)
    (get g.NID.Ord.cmp l.full q)
