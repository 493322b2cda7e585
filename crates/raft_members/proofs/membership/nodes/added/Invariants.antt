use Rattle.std.proofs.Common.{IsTrue}
use Rattle.std.specs.Prelude.{is_some}
use Rattle.std.specs.Map.{lookup}
use Rattle.std.specs.BTreeMap.{get, is_at}
use Rattle.std.specs.Option.{option_eq, option_or}
use Rattle.raft_members.proofs.membership.nodes.added.Given as goal

abbrev pub invariant-loop-id : goal.invariant-loop-id
invariant-loop-id g l = record {
  nodes : (q : g.row.NID.Denot) → IsTrue (option_eq g.N.PartialEq.eq
      (option_or (get g.NID.Ord.cmp l.added q) (lookup (is_at (g.NID.Ord.cmp q)) l.id-iterator))
      (option_or (get g.NID.Ord.cmp l.fn.nodes q) (get g.NID.Ord.cmp l.more q)));
  kept : (q : g.row.NID.Denot) → IsTrue (is_some (get g.NID.Ord.cmp l.fn.nodes q)) → IsTrue (is_some (get g.NID.Ord.cmp l.added q));
}
