-- Changes that replace all voters by a goal, and the goal to which each change of voters leads.
use Rattle.std.specs.Prelude.{◌≡◌, ◌⊎◌, ◌<◌, Bool, true, Option, Some, None, List, [], ◌∷◌, length, is_some, IfSome, IsSomeAnd}
use Rattle.std.specs.BTreeMap.{keys}
use Rattle.std.specs.Set.{is_member}
use Rattle.std.specs.declared.cmp.Ordering.{Ordering}
use Rattle.raft_members.specs.membership.Members.{MemberList, Members, members_of}
use Rattle.raft_members.specs.membership.Valid.{IsValid}
use Rattle.raft_members.specs.membership.Change.{last_config, changed, union_of, without}
use Rattle.raft_members.specs.declared.change_members.ChangeMembers.{ChangeMembers}
use Rattle.raft_members.specs.declared.change_members.ChangeMembers.TheVariants.{AddVoterIds, AddVoters, RemoveVoters, ReplaceAllVoters}
use Rattle.raft_members.specs.declared.error.ChangeMembershipErrorOf.{ChangeMembershipErrorOf}
use Rattle.raft_members.specs.declared.error.ChangeMembershipErrorOf.TheVariants.{OutOfMemory}

-- the voters that a change makes the only ones, if it does so
abbrev pub goal_of : {K N : Type 0} → ChangeMembers K N → Option (List K)
goal_of (ReplaceAllVoters ids) = Some ids.keys
goal_of _ = None

-- the change makes exactly these ids the voters
abbrev pub ReplacesAllBy : {K N : Type 0} → (K → K → Bool) → List K → ChangeMembers K N → Type 0
ReplacesAllBy {K} eq voters change =
    IsSomeAnd (goal_of change) (λ goal. (id : K) → is_member eq goal id ≡ is_member eq voters id)

-- the goal can replace the voters of these members: they are valid and have a config, the goal has
-- an id, and each of its ids has a node
pub record CanReplace {K N : Type 0} (eq : K → K → Bool) (m : Members K N) (goal : List K)
    : Type 0 where
  pub valid : IsValid eq m
  pub has_config : 0 < length m.configs
  pub has_id : 0 < length goal
  pub has_nodes : (id : K) → is_member eq goal id ≡ true → is_some (m.node id) ≡ true

-- if a change replaces the voters by a goal that can replace them, only an allocation failure
-- refuses it
abbrev pub OnlyMemory : {C K N : Type 0} → (K → K → Bool) → Members K N → ChangeMembers K N
    → ChangeMembershipErrorOf C K → Type 0
OnlyMemory eq m change e = IfSome (goal_of change) (λ goal. CanReplace eq m goal → e ≡ OutOfMemory)

-- the membership that a change to the goal makes of m: its last config is the goal, at most the
-- last config of m comes before it, and the same change made a second time makes the goal the only
-- config
pub record LeadsToGoal {K N : Type 0} (eq : K → K → Bool) (cmp : K → K → Ordering) (m : Members K N)
    (change : ChangeMembers K N) (goal : List K) (next : MemberList K N) : Type 0 where
  pub configs : (next.configs ≡ goal ∷ []) ⊎ (next.configs ≡ last_config m.configs ∷ goal ∷ [])
  pub second_change : (retain : Bool)
      → (changed eq cmp (members_of cmp next) change retain).configs ≡ goal ∷ []

-- the goal of a change of voters from these members
abbrev pub goal_from : {K N : Type 0} → (K → K → Bool) → (K → K → Ordering) → Members K N
    → ChangeMembers K N → Option (List K)
goal_from eq cmp m (AddVoterIds ids) = Some (union_of cmp (last_config m.configs) ids.keys)
goal_from eq cmp m (AddVoters nodes) = Some (union_of cmp (last_config m.configs) (keys nodes))
goal_from eq cmp m (RemoveVoters ids) = Some (without eq (last_config m.configs) ids.keys)
goal_from eq cmp m (ReplaceAllVoters ids) = Some ids.keys
goal_from eq cmp m _ = None

-- a change of voters, made twice, leads to its goal
abbrev pub TwoChanges : {K N : Type 0} → (K → K → Bool) → (K → K → Ordering) → Members K N
    → ChangeMembers K N → MemberList K N → Type 0
TwoChanges eq cmp m change next =
    IfSome (goal_from eq cmp m change) (λ goal. LeadsToGoal eq cmp m change goal next)
