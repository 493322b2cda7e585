-- A membership and the progress that counts by it.
use Rattle.std.specs.Prelude.{◌≡◌, Bool, ◌&&◌, ◌||◌, List, is_some, map, not}
use Rattle.std.specs.List.{IsDistinct, list_all, list_any}
use Rattle.std.specs.Set.{is_member}
use Rattle.std.specs.declared.cmp.Ordering.{Ordering}
use Rattle.std.proofs.Common.{Global, Vec}
use Rattle.raft_members.specs.quorum.Majority.{is_majority, is_voter_of}
use Rattle.raft_members.specs.membership.Members.{MemberList, Members, members_of, node_at}
use Rattle.raft_progress.specs.progress.InOrder.{IsInOrder}
use Rattle.raft_progress.specs.progress.ProgressState.{ProgressState}
use Rattle.raft_progress.specs.progress.ProgressView.{ProgressView, state}

-- the configs of a membership as one quorum set: a joint of lists of voters
abbrev pub Configs : Type 0 → Type 0
Configs K = Vec (Vec K Global) Global

module _ {K : Type 0} (eq : K → K → Bool) where
  -- a quorum of the configs is a majority of each
  abbrev pub has_quorum : Configs K → (K → Bool) → Bool
  has_quorum configs set = list_all (λ c. is_majority eq c.items set) configs.items

  -- a voter of the configs is an id in one of them
  abbrev pub is_voter : Configs K → K → Bool
  is_voter configs id = list_any (λ c. is_member eq c.items id) configs.items

-- what contracts see of a tracked progress: its membership and its progress
pub record TrackedView (K N V P : Type 0) : Type 0 where
  pub membership : MemberList K N
  pub progress : ProgressView K V P (Configs K)

-- a membership, and voters, learners and values apart from how they are stored
pub record TrackedState (K N V P : Type 0) : Type 0 where
  pub membership : MemberList K N
  pub progress : ProgressState K V P (Configs K)

-- what contracts see of a tracked progress, apart from how it is stored
abbrev pub tracked_state : {K N V P : Type 0} → (K → K → Bool) → TrackedView K N V P
    → TrackedState K N V P
tracked_state eq t = record { membership = t.membership; progress = state eq t.progress }

-- the quorum set has the configs of the membership
abbrev pub HasConfigs : {K N : Type 0} → Members K N → Configs K → Type 0
HasConfigs m configs = map (λ c. c.items) configs.items ≡ m.configs

-- the two quorum sets have the same configs
abbrev pub HasSameConfigs : {K : Type 0} → Configs K → Configs K → Type 0
HasSameConfigs old new = map (λ c. c.items) new.items ≡ map (λ c. c.items) old.items

-- the learners of a membership, each once: the ids that have a node and are in no config
pub record AreLearners {K N : Type 0} (eq : K → K → Bool) (m : Members K N) (learners : List K)
    : Type 0 where
  pub distinct : IsDistinct eq learners
  pub are_known : (id : K)
      → is_member eq learners id ≡ (is_some (m.node id) && not (is_voter_of eq m.configs id))

-- the progress counts by the membership: it has the quorums and the voters of the configs, and a
-- value for each voter and for each id with a node
pub record CountsBy {K N V P : Type 0} (eq : K → K → Bool) (cmp : K → K → Ordering)
    (t : TrackedState K N V P) : Type 0 where
  pub configs : HasConfigs (members_of cmp t.membership) t.progress.quorum_set
  pub voters : (id : K) → t.progress.is_voter id ≡ is_voter_of eq t.membership.configs id
  pub known : (id : K)
      → is_some (t.progress.value id)
      ≡ (is_voter_of eq t.membership.configs id || is_some (node_at cmp t.membership.nodes id))

-- a tracked progress is ready if its progress is in order and counts by its membership
pub record IsReady {K N V P : Type 0} (eq : K → K → Bool) (id_cmp : K → K → Ordering)
    (cmp : P → P → Ordering) (part : V → P) (t : TrackedView K N V P) : Type 0 where
  pub ordered : IsInOrder eq cmp part (has_quorum eq) t.progress
  pub counts_by : CountsBy eq id_cmp (tracked_state eq t)
