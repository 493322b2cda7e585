-- Each later quorum knows what a quorum of the voters has reached.
use Rattle.std.specs.Prelude.{◌≡◌, ◌⊎◌, ◌<◌, Bool, true, ◌&&◌, List, length}
use Rattle.std.specs.declared.cmp.Ordering.{Ordering}
use Rattle.raft_members.specs.quorum.Majority.{is_joint_majority, is_voter_of}
use Rattle.raft_members.specs.quorum.Meeting.{RespectsEquality}
use Rattle.raft_members.specs.membership.Members.{Members}
use Rattle.raft_members.specs.membership.Change.{changed}
use Rattle.raft_members.specs.declared.change_members.ChangeMembers.{ChangeMembers}

module _ {K : Type 0} (eq : K → K → Bool) where
  -- the voters have reached a value: those in a quorum of the configs have, or all have
  abbrev pub VotersReached : List (List K) → (K → Bool) → (K → Bool) → Type 0
  VotersReached configs voter reached =
      (is_joint_majority eq configs (λ id. voter id && reached id) ≡ true)
      ⊎ ((id : K) → voter id ≡ true → reached id ≡ true)

  -- every quorum of the configs contains a voter that has reached the value
  abbrev pub EachQuorumKnows : List (List K) → (K → Bool) → (K → Bool) → Type 0
  EachQuorumKnows configs voter reached =
      (set : K → Bool) → is_joint_majority eq configs set ≡ true
      → (id : K) × (set id ≡ true) × (voter id ≡ true) × (reached id ≡ true)

  -- a value is granted in some configs, at least one: the voters have reached it; each id in a
  -- config is a voter; and of two equal ids both or neither are voters that have reached it
  pub record IsGranted (configs : List (List K)) (voter reached : K → Bool) : Type 0 where
    pub has_config : 0 < length configs
    pub are_voters : (id : K) → is_voter_of eq configs id ≡ true → voter id ≡ true
    pub respects_equality : RespectsEquality eq (λ id. voter id && reached id)
    pub voters_reached : VotersReached configs voter reached

-- each quorum of a membership knows the value, and so does each quorum of what one change makes of
-- the membership
pub record StaysKnown {K N : Type 0} (eq : K → K → Bool) (cmp : K → K → Ordering) (m : Members K N)
    (voter reached : K → Bool) : Type 0 where
  pub quorums : EachQuorumKnows eq m.configs voter reached
  pub changed_quorums : (change : ChangeMembers K N) (retain : Bool)
      → EachQuorumKnows eq (changed eq cmp m change retain).configs voter reached

-- what is granted in a membership's configs stays known through one change of it
abbrev pub ChangeKeepsReached : (K N : Type 0) → (K → K → Bool) → (K → K → Ordering) → Type 0
ChangeKeepsReached K N eq cmp =
    (m : Members K N) (voter reached : K → Bool) → IsGranted eq m.configs voter reached
    → StaysKnown eq cmp m voter reached
