-- Nodes that are inserted into a map, and ids that have none.
use Rattle.std.specs.Prelude.{◌≡◌, Bool, cond, Option, Some, None, List, IsTrue}
use Rattle.std.specs.declared.cmp.Ordering.{Ordering}
use Rattle.std.specs.Ordering.{is_lt}
use Rattle.std.specs.BTreeMap.{insert_entry, is_at}
use Rattle.raft_members.specs.membership.Members.{node_at}

-- a copy that equals the node was inserted at the id
pub record PutsEqual {K N : Type 0} (same : N → N → Bool) (cmp : K → K → Ordering)
    (old new : List (K × N)) (id : K) (node : N) : Type 0 where
  pub copy : N
  pub equal : IsTrue (same node copy)
  pub entries : new ≡ insert_entry cmp old id copy
  pub nodes : (q : K) → node_at cmp new q ≡ cond (is_at (cmp id) q) (Some copy) (node_at cmp old q)

-- the lesser of two ids, or the one that there is
abbrev pub lesser : {K : Type 0} → (K → K → Ordering) → Option K → Option K → Option K
lesser cmp None b = b
lesser cmp (Some x) None = Some x
lesser cmp (Some x) (Some y) = cond (is_lt (cmp y x)) (Some y) (Some x)
