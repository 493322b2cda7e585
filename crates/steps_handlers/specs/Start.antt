-- The start of a cluster by one of its members.
use Rattle.std.specs.Prelude.{◌≡◌, ◌∷◌, Bool, true, false, List, [], Some, IsTrue, is_some}
use Rattle.std.specs.declared.cmp.Ordering.{Ordering}
use Rattle.raft_base.specs.declared.log_id.LogIdOf.{LogIdOf}
use Rattle.steps_handlers.specs.declared.error.StartError.{StartError}
use Rattle.steps_handlers.specs.declared.error.StartError.TheVariants.{InvalidMembership, MembershipNotInOrder, NotAllowed, NotInMembers, OutOfMemory}
use Rattle.steps_handlers.specs.Proposals.{AppendsPayload}
use Rattle.raft_members.specs.membership.Members.{MemberList, members_of, node_at}
use Rattle.raft_members.specs.membership.Stored.{log_id_of}
use Rattle.raft_members.specs.membership.Valid.{IsValid}
use Rattle.raft_progress.specs.progress.Comparisons.{OrdMembers}
use Rattle.raft_state.specs.log_id_list.FullLog.{full_log}
use Rattle.raft_state.specs.raft_state.Role.{is_initialized}
use Rattle.raft_state.specs.raft_state.VoteAndLog.{vote_of}
use Rattle.raft_state.specs.declared.entry.EntryOf.{EntryOf}
use Rattle.raft_state.specs.declared.entry.payload.EntryPayload.TheVariants.{Membership as Stores}
use Rattle.raft_state.specs.declared.raft_state.RaftStateIn.{RaftStateIn}

-- the log id of the first entry of a cluster: index 0, of the leader that the vote is for
abbrev pub first_log_id : {C : Type 0} → C → LogIdOf C
first_log_id leader = record { leader_id = leader; index = 0 }

-- whether a server belongs to a cluster: it has a log, or its vote is not the vote of a new server
abbrev pub BelongsToCluster : {K N I L C : Type 0} → (L → L → Bool) → (L → Type 0)
    → RaftStateIn K N I L C → Bool → Type 0
BelongsToCluster {K} {N} {I} {L} {C} eq is_default s answer =
    (unset : L) × is_default unset
    × (answer ≡ is_initialized eq (full_log s.log_ids) (vote_of s) unset)

-- a membership has a config
abbrev pub has_config : {K : Type 0} → List (List K) → Bool
has_config [] = false
has_config (config ∷ configs) = true

-- a membership can decide: it has a config, no config is empty, and each voter has a node
pub record CanDecide {K N : Type 0} (id_eq : K → K → Bool) (cmp : K → K → Ordering) (m : MemberList K N)
    : Type 0 where
  pub configs : IsTrue (has_config m.configs)
  pub valid : IsValid id_eq (members_of cmp m)

-- a cluster was started: the first entry, which is returned alone, holds the membership; the log has
-- its log id alone, and the membership is effective
pub record Starts {K N I L C D : Type 0} (id_eq : K → K → Bool) (same : N → N → Bool) (first : LogIdOf C)
    (membership : MemberList K N) (entries : List (EntryOf C K N D)) (old new : RaftStateIn K N I L C)
    : Type 0 where
  pub entry : entries ≡ record { log_id = first; payload = Stores membership } ∷ []
  pub log : full_log new.log_ids ≡ first ∷ []
  pub effective : AppendsPayload id_eq same first (Some membership) old.membership_state
      new.membership_state

-- why a start is refused: the server belongs to a cluster, it is no member, the membership could not
-- decide, or a membership is effective already
abbrev pub IsStartRefusal : {K N I L C : Type 0} → (L → L → Bool) → (L → Type 0) → OrdMembers K
    → RaftStateIn K N I L C → K → MemberList K N → StartError → Type 0
IsStartRefusal eq is_default ord s id m NotAllowed = BelongsToCluster eq is_default s true
IsStartRefusal eq is_default ord s id m NotInMembers = is_some (node_at ord.cmp m.nodes id) ≡ false
IsStartRefusal eq is_default ord s id m InvalidMembership = CanDecide ord.eq ord.cmp m → ⊥
IsStartRefusal eq is_default ord s id m MembershipNotInOrder =
    is_some (log_id_of s.membership_state.effective) ≡ true
IsStartRefusal eq is_default ord s id m OutOfMemory = Unit {0}
