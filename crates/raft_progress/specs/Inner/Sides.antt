-- What is kept of two configs, so that the voters of each can be counted.
use Rattle.std.specs.Prelude.{◌≡◌, ℕ, ◌<◌, ◌≤◌, Bool, false, ◌&&◌, ◌||◌, List, [], count_by, is_some, length, nat_le, take}
use Rattle.std.specs.declared.cmp.Ordering.{Ordering}
use Rattle.std.specs.List.Sorted.{IsStrictlySortedBy}
use Rattle.std.specs.Set.{is_member}
use Rattle.std.proofs.Common.{get_or}
use Rattle.raft_members.specs.quorum.Majority.{is_majority, is_voter_of}
use Rattle.raft_members.specs.quorum.QuorumSize.{majority_size}
use Rattle.raft_members.specs.membership.Members.{MemberList, node_at}
use Rattle.raft_progress.specs.progress.ProgressView.{ProgressView, state}
use Rattle.raft_progress.specs.declared.progress.sides.Side.{Side}
use Rattle.raft_progress.specs.declared.progress.sides.Sides.{Sides}

-- the first items have so many that pass the test exactly if there are at least `len` of them
abbrev pub IsShortestWith : {X : Type 0} → (X → Bool) → ℕ → List X → ℕ → Type 0
IsShortestWith test need xs len =
    (k : ℕ) → k ≤ length xs → nat_le need (count_by test (take k xs)) ≡ nat_le len k

-- a side has the voters of a config among the ids
pub record IsSideOf {K : Type 0} (eq : K → K → Bool) (config ids : List K) (side : Side) : Type 0 where
  pub need : side.need ≡ majority_size config
  pub one_length : length side.has.items ≡ length ids
  pub has : (r : ℕ) (d : K) → r < length ids
      → get_or side.has.items r false ≡ is_member eq config (get_or ids r d)

-- the sides of a quorum set whose quorums are the majorities of two configs
pub record AreSidesOf {K : Type 0} (eq : K → K → Bool) (has_quorum : (K → Bool) → Bool)
    (ids : List K) (sides : Sides) : Type 0 where
  pub first_config : List K
  pub second_config : List K
  pub first : IsSideOf eq first_config ids sides.first
  pub second : IsSideOf eq second_config ids sides.second
  pub decides : (set : K → Bool)
      → has_quorum set ≡ (is_majority eq first_config set && is_majority eq second_config set)

-- the sides of a progress by any ascending list of its ids
abbrev pub AreSidesOfProgress : {ID V P QS : Type 0} → (ID → ID → Bool) → (ID → ID → Ordering)
    → (QS → (ID → Bool) → Bool) → ProgressView ID V P QS → Sides → Type 0
AreSidesOfProgress {ID} eq cmp has_quorum p sides =
    (ids : List ID) → IsStrictlySortedBy cmp ids
    → ((x : ID) → is_member eq ids x ≡ is_some ((state eq p).value x))
    → AreSidesOf eq (has_quorum p.quorum_set) ids sides

-- a list of the voters and the ids with a node, ascending
pub record AreKnownIds {K N : Type 0} (eq : K → K → Bool) (cmp : K → K → Ordering) (m : MemberList K N)
    (ids : List K) : Type 0 where
  pub ascending : IsStrictlySortedBy cmp ids
  pub known : (id : K)
      → is_member eq ids id ≡ (is_voter_of eq m.configs id || is_some (node_at cmp m.nodes id))

-- the sides of a membership with two configs
pub record AreSidesOfMembers {K N : Type 0} (eq : K → K → Bool) (cmp : K → K → Ordering)
    (m : MemberList K N) (sides : Sides) : Type 0 where
  pub two : length m.configs ≡ 2
  pub first : (ids : List K) → AreKnownIds eq cmp m ids → IsSideOf eq (get_or m.configs 0 []) ids sides.first
  pub second : (ids : List K) → AreKnownIds eq cmp m ids
      → IsSideOf eq (get_or m.configs 1 []) ids sides.second
