-- When two changes are the same: they are of the same kind, with the same ids and equal nodes.
use Rattle.std.specs.Prelude.{◌≡◌, Bool, List, [], IsTrue}
use Rattle.raft_members.specs.membership.Members.{same_nodes}
use Rattle.raft_members.specs.declared.change_members.ChangeMembers.{ChangeMembers}
use Rattle.raft_members.specs.declared.change_members.ChangeMembers.TheVariants.{AddVoterIds, AddVoters, RemoveVoters, ReplaceAllVoters, AddNodes, SetNodes, RemoveNodes, ReplaceAllNodes}

-- the kind of a change
pub data Kind : Type 0 where
  adds_voter_ids : Kind
  adds_voters : Kind
  removes_voters : Kind
  replaces_voters : Kind
  adds_nodes : Kind
  sets_nodes : Kind
  removes_nodes : Kind
  replaces_nodes : Kind

module _ {K N : Type 0} where
  -- the kind of a change
  abbrev pub kind_of : ChangeMembers K N → Kind
  kind_of (AddVoterIds _) = adds_voter_ids
  kind_of (AddVoters _) = adds_voters
  kind_of (RemoveVoters _) = removes_voters
  kind_of (ReplaceAllVoters _) = replaces_voters
  kind_of (AddNodes _) = adds_nodes
  kind_of (SetNodes _) = sets_nodes
  kind_of (RemoveNodes _) = removes_nodes
  kind_of (ReplaceAllNodes _) = replaces_nodes

  -- the ids that a change of ids names, in order
  abbrev pub ids_in : ChangeMembers K N → List K
  ids_in (AddVoterIds ids) = ids.keys
  ids_in (RemoveVoters ids) = ids.keys
  ids_in (ReplaceAllVoters ids) = ids.keys
  ids_in (RemoveNodes ids) = ids.keys
  ids_in _ = []

  -- the nodes that a change of nodes names, in the order of their ids
  abbrev pub nodes_in : ChangeMembers K N → List (K × N)
  nodes_in (AddVoters nodes) = nodes.entries
  nodes_in (AddNodes nodes) = nodes.entries
  nodes_in (SetNodes nodes) = nodes.entries
  nodes_in (ReplaceAllNodes nodes) = nodes.entries
  nodes_in _ = []

-- two changes are the same
abbrev pub IsSameChange : {K N : Type 0} → (K → K → Bool) → (N → N → Bool) → ChangeMembers K N
    → ChangeMembers K N → Type 0
IsSameChange eq same a b =
    (kind_of a ≡ kind_of b) × (ids_in a ≡ ids_in b)
    × IsTrue (same_nodes eq same (nodes_in a) (nodes_in b))
