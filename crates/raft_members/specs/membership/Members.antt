-- The contents of a membership: its configs, and the node at each id.
pub use Rattle.raft_members.specs.membership.MemberList.{MemberList}
use Rattle.std.specs.Prelude.{◌≡◌, ◌&&◌, Bool, Option, List, IsTrue, is_some}
use Rattle.std.specs.Cmp.Lexicographic.{pointwise}
use Rattle.std.specs.declared.cmp.Ordering.{Ordering}
use Rattle.std.specs.Map.{lookup}
use Rattle.std.specs.Option.{option_eq}
use Rattle.std.specs.BTreeMap.{is_at}

-- the configs, each as its ids in order, and the node at each id
pub record Members (K N : Type 0) : Type 0 where
  pub configs : List (List K)
  pub node : K → Option N

-- the node at an id, in a list of nodes
abbrev pub node_at : {K N : Type 0} → (K → K → Ordering) → List (K × N) → K → Option N
node_at cmp nodes id = lookup (is_at (cmp id)) nodes

-- the contents of a membership
abbrev pub members_of : {K N : Type 0} → (K → K → Ordering) → MemberList K N → Members K N
members_of cmp m = record { configs = m.configs; node = node_at cmp m.nodes }

-- the list has, at each id, a node that equals the one of the function, or none if the function
-- gives none
abbrev pub HasNodes : {K N : Type 0} → (N → N → Bool) → (K → K → Ordering) → List (K × N)
    → (K → Option N) → Type 0
HasNodes {K} same cmp nodes node =
    (id : K) → IsTrue (option_eq same (node_at cmp nodes id) (node id))

-- each id that has a node in the new list has one in the old list
abbrev pub AddsNoId : {K N : Type 0} → (K → K → Ordering) → List (K × N) → List (K × N) → Type 0
AddsNoId {K} cmp old new =
    (id : K) → IsTrue (is_some (node_at cmp new id)) → IsTrue (is_some (node_at cmp old id))

-- the membership has exactly these configs, and at each id an equal node, or none if they have none
abbrev pub HasMembers : {K N : Type 0} → (N → N → Bool) → (K → K → Ordering) → MemberList K N
    → Members K N → Type 0
HasMembers same cmp m w = (m.configs ≡ w.configs) × HasNodes same cmp m.nodes w.node

-- two lists of nodes are equal: the same ids, with equal nodes
abbrev pub same_nodes : {K N : Type 0} → (K → K → Bool) → (N → N → Bool) → List (K × N)
    → List (K × N) → Bool
same_nodes eq same xs ys = pointwise (λ x y. eq x.0 y.0 && same x.1 y.1) xs ys

-- two memberships are equal: equal configs and equal nodes
abbrev pub same_members : {K N : Type 0} → (K → K → Bool) → (N → N → Bool) → MemberList K N
    → MemberList K N → Bool
same_members eq same m w =
    pointwise (pointwise eq) m.configs w.configs && same_nodes eq same m.nodes w.nodes
