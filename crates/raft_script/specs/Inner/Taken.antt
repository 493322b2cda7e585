-- How words are taken from a line, one after another.
use Rattle.std.specs.Prelude.{◌≡◌, ◌≢◌, ℕ, Bool, List, ◌∷◌, is_some}
use Rattle.std.specs.BTreeMap.{BTreeMap, get}
use Rattle.std.specs.BTreeSet.{BTreeSet, contains}
use Rattle.std.specs.Ordering.{nat_cmp}
use Rattle.raft_base.specs.declared.node.EmptyNode.{EmptyNode}
use Rattle.raft_members.specs.declared.change_members.ChangeMembers.{ChangeMembers}
use Rattle.raft_script.specs.Line.{◌▸◌, Is, kind_word, retain_word, speaks_of, words}
use Rattle.raft_script.specs.Word.{IsListOf}
use Rattle.raft_script.specs.declared.script.command.Words.{Words}

-- the words that remain
abbrev pub left_in : Words → List (List ℕ)
left_in line = words line.rest.now

-- the first word fits, and the others remain
pub record Takes (Fits : List ℕ → Type 0) (old left : Words) : Type 0 where
  pub word : List ℕ
  pub first : left_in old ≡ word ∷ left_in left
  pub fits : Fits word

-- any words
abbrev pub Whatever : List (List ℕ) → Type 0
Whatever others = Unit {0}

-- no first word fits
abbrev pub Lacks : (List ℕ → Type 0) → List (List ℕ) → Type 0
Lacks Fits left = ¬ (Fits ▸ Whatever) left

-- the kind and the ids of a change are taken
pub record TakesChange (change : ChangeMembers ℕ EmptyNode) (old left : Words) : Type 0 where
  pub between : Words
  pub kind : Takes (Is (kind_word change)) old between
  pub ids : Takes (IsListOf (speaks_of change)) between left

-- no kind and ids of a change come first
abbrev pub LacksChange : List (List ℕ) → Type 0
LacksChange left =
    (change : ChangeMembers ℕ EmptyNode)
    → ¬ (Is (kind_word change) ▸ IsListOf (speaks_of change) ▸ Whatever) left

-- neither word for removed voters comes first
abbrev pub LacksRetain : List (List ℕ) → Type 0
LacksRetain left = (retain : Bool) → Lacks (Is (retain_word retain)) left

-- the change of a kind with these ids
abbrev pub IsChangeOf : List ℕ → BTreeSet ℕ → ChangeMembers ℕ EmptyNode → Type 0
IsChangeOf kind ids change =
    (kind ≡ kind_word change) × ((id : ℕ) → speaks_of change id ≡ contains nat_cmp ids id)

-- no change is of this kind
abbrev pub IsNoKind : List ℕ → Type 0
IsNoKind kind = (change : ChangeMembers ℕ EmptyNode) → kind ≢ kind_word change

-- a node at each id, and at no other id
abbrev pub AreNodesOf : BTreeSet ℕ → BTreeMap ℕ EmptyNode → Type 0
AreNodesOf ids nodes = (id : ℕ) → is_some (get nat_cmp nodes id) ≡ contains nat_cmp ids id
