-- Lists of nodes in which ids without a node have the default node.
use Rattle.std.specs.Prelude.{◌≡◌, Bool, true, false, Option, Some, None, List}
use Rattle.std.specs.declared.cmp.Ordering.{Ordering}
use Rattle.raft_members.specs.membership.Members.{node_at}

-- the node at an id: the given one if there is one, otherwise the default one if the id needs one,
-- and otherwise none
abbrev pub WithDefault : {N : Type 0} → (N → Type 0) → Option N → Bool → Option N → Type 0
WithDefault is_default (Some given) needed node = node ≡ Some given
WithDefault is_default None true (Some made) = is_default made
WithDefault is_default None true None = ⊥
WithDefault is_default None false node = node ≡ None

-- the nodes are the given ones, and a default one at each id that needs one and has none
abbrev pub HasDefaults : {K N : Type 0} → (N → Type 0) → (K → K → Ordering) → List (K × N)
    → (K → Bool) → List (K × N) → Type 0
HasDefaults {K} is_default cmp given needed nodes =
    (id : K) → WithDefault is_default (node_at cmp given id) (needed id) (node_at cmp nodes id)
