-- When a membership is valid, and which voter is the first without a node.
use Rattle.std.specs.Prelude.{◌≡◌, Bool, true, false, Option, Some, None, List, [], ◌∷◌, is_some}
use Rattle.std.specs.declared.cmp.Ordering.{Ordering}
use Rattle.std.specs.List.{list_any}
use Rattle.std.specs.Ordering.{is_lt}
use Rattle.raft_members.specs.quorum.Majority.{is_voter_of}
use Rattle.raft_members.specs.membership.Members.{Members}

-- a config without ids
abbrev pub is_empty_config : {K : Type 0} → List K → Bool
is_empty_config [] = true
is_empty_config (id ∷ ids) = false

-- some config has no ids
abbrev pub has_empty_config : {K : Type 0} → List (List K) → Bool
has_empty_config configs = list_any is_empty_config configs

-- the first voter that is not known: no other such voter is below it
pub record IsFirstUnknown {K : Type 0} (cmp : K → K → Ordering) (voter known : K → Bool) (id : K)
    : Type 0 where
  pub is_voter : voter id ≡ true
  pub is_unknown : known id ≡ false
  pub is_least : (other : K) → voter other ≡ true → known other ≡ false
      → is_lt (cmp other id) ≡ false

-- the first voter that is not known, and none if all are known
abbrev pub FirstUnknown : {K : Type 0} → (K → K → Ordering) → (K → Bool) → (K → Bool) → Option K
    → Type 0
FirstUnknown {K} cmp voter known None = (id : K) → voter id ≡ true → known id ≡ true
FirstUnknown cmp voter known (Some id) = IsFirstUnknown cmp voter known id

-- the first voter of a membership that has no node, and none if each has one
abbrev pub FirstWithoutNode : {K N : Type 0} → (K → K → Bool) → (K → K → Ordering) → Members K N
    → Option K → Type 0
FirstWithoutNode eq cmp m first =
    FirstUnknown cmp (is_voter_of eq m.configs) (λ id. is_some (m.node id)) first

-- a membership is valid if no config is empty and each voter has a node
abbrev pub IsValid : {K N : Type 0} → (K → K → Bool) → Members K N → Type 0
IsValid {K} eq m =
    (has_empty_config m.configs ≡ false)
    × ((id : K) → is_voter_of eq m.configs id ≡ true → is_some (m.node id) ≡ true)
