use Rattle.std.proofs.Common.{◌≡◌, cond, None}
use Rattle.std.specs.List.{list_any}
use Rattle.std.specs.BTreeMap.{get, is_at}
use Rattle.std.specs.BTreeSet.{contains}
use Rattle.raft_members.proofs.membership.nodes.remove_all.Given as goal

abbrev pub invariant-loop-id : goal.invariant-loop-id
invariant-loop-id g l = (q : g.row.NID.Denot)
    → cond (list_any (is_at (g.NID.Ord.cmp q)) l.id-iterator) None (get g.NID.Ord.cmp l.nodes q)
    ≡ cond (contains g.NID.Ord.cmp l.ids q) None (get g.NID.Ord.cmp l.fn.nodes q)
