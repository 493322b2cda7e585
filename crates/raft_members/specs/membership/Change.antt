-- What a change makes of a membership, case by case. Ids are compared by `eq`, their own `==`, and
-- ordered by `cmp`, which agree.
use Rattle.std.specs.Prelude.{Bool, true, cond, not, ◌||◌, Option, None, List, [], length, ◌-◌}
use Rattle.std.specs.declared.cmp.Ordering.{Ordering}
use Rattle.std.specs.List.{filter, slice_get}
use Rattle.std.specs.Option.{option_or, unwrap_or}
use Rattle.std.specs.BTreeMap.{keys, get}
use Rattle.std.specs.BTreeSet.{contains}
use Rattle.std.specs.Set.{is_member, sorted_merge}
use Rattle.raft_members.specs.quorum.Majority.{is_voter_of}
use Rattle.raft_members.specs.quorum.Coherence.{next_configs}
use Rattle.raft_members.specs.membership.Members.{Members}
use Rattle.raft_members.specs.declared.change_members.ChangeMembers.{ChangeMembers}
use Rattle.raft_members.specs.declared.change_members.ChangeMembers.TheVariants.{AddVoterIds, AddVoters, RemoveVoters, ReplaceAllVoters, AddNodes, SetNodes, RemoveNodes, ReplaceAllNodes}

-- the last config, and the empty one if there is none
abbrev pub last_config : {K : Type 0} → List (List K) → List K
last_config configs = unwrap_or (slice_get configs (length configs - 1)) []

-- the ids of either list, both in order
abbrev pub union_of : {K : Type 0} → (K → K → Ordering) → List K → List K → List K
union_of cmp xs ys = sorted_merge cmp true xs ys

-- the ids of the first list that are not in the second
abbrev pub without : {K : Type 0} → (K → K → Bool) → List K → List K → List K
without eq xs ys = filter (λ id. not (is_member eq ys id)) xs

-- the node at an id stays, unless a voter of the old configs is not in the new ones and nodes are
-- not retained
abbrev pub keeps_node : {K : Type 0} → (K → K → Bool) → List (List K) → List (List K) → Bool → K
    → Bool
keeps_node eq old new retain id = retain || (not (is_voter_of eq old id) || is_voter_of eq new id)

-- one step of the voters towards the goal
abbrev pub next_members : {K N : Type 0} → (K → K → Bool) → Members K N → List K → Bool
    → Members K N
next_members eq m goal retain = let next = next_configs eq m.configs goal in record {
  configs = next;
  node = λ id. cond (keeps_node eq m.configs next retain id) (m.node id) None;
}

-- the same configs with other nodes
abbrev pub with_nodes : {K N : Type 0} → Members K N → (K → Option N) → Members K N
with_nodes m node = record { configs = m.configs; node = node }

-- what a change makes of a membership, before it is tested for validity
abbrev pub changed : {K N : Type 0} → (K → K → Bool) → (K → K → Ordering) → Members K N
    → ChangeMembers K N → Bool → Members K N
changed eq cmp m (AddVoterIds ids) retain =
    next_members eq m (union_of cmp (last_config m.configs) ids.keys) retain
changed eq cmp m (AddVoters nodes) retain =
    next_members eq (with_nodes m (λ id. option_or (m.node id) (get cmp nodes id)))
    (union_of cmp (last_config m.configs) (keys nodes)) retain
changed eq cmp m (RemoveVoters ids) retain =
    next_members eq m (without eq (last_config m.configs) ids.keys) retain
changed eq cmp m (ReplaceAllVoters ids) retain = next_members eq m ids.keys retain
changed eq cmp m (AddNodes nodes) retain =
    with_nodes m (λ id. option_or (m.node id) (get cmp nodes id))
changed eq cmp m (SetNodes nodes) retain =
    with_nodes m (λ id. option_or (get cmp nodes id) (m.node id))
changed eq cmp m (RemoveNodes ids) retain =
    with_nodes m (λ id. cond (contains cmp ids id) None (m.node id))
changed eq cmp m (ReplaceAllNodes nodes) retain = with_nodes m (get cmp nodes)
