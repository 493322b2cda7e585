-- How quorums meet: the voters that two of them share.
use Rattle.std.specs.Prelude.{◌≡◌, ◌+◌, ◌<◌, ℕ, Bool, true, false, IsTrue, List, [], length}
use Rattle.std.specs.Cmp.Lexicographic.{pointwise}
use Rattle.std.specs.Set.{distinct_count, is_member}
use Rattle.raft_members.specs.quorum.Majority.{has_at_least, is_majority, is_joint_majority, is_voter_of}
use Rattle.raft_members.specs.quorum.Coherence.{is_coherent}

module _ {K : Type 0} (eq : K → K → Bool) where
  -- some voter of the config is in both sets
  abbrev pub ShareMember : List K → (K → Bool) → (K → Bool) → Type 0
  ShareMember config s t =
      (id : K) × (is_member eq config id ≡ true) × (s id ≡ true) × (t id ≡ true)

  -- some voter of the configs is in both sets
  abbrev pub ShareVoter : List (List K) → (K → Bool) → (K → Bool) → Type 0
  ShareVoter configs s t =
      (id : K) × (is_voter_of eq configs id ≡ true) × (s id ≡ true) × (t id ≡ true)

  -- some voter that is in both lists of configs is in both sets
  abbrev pub ShareCommonVoter : List (List K) → List (List K) → (K → Bool) → (K → Bool) → Type 0
  ShareCommonVoter these others s t =
      (id : K) × (is_voter_of eq these id ≡ true) × (is_voter_of eq others id ≡ true)
      × (s id ≡ true) × (t id ≡ true)

  -- a set contains both or neither of two equal ids
  abbrev pub RespectsEquality : (K → Bool) → Type 0
  RespectsEquality set = (x y : K) → eq x y ≡ true → set x ≡ set y

  -- a majority of a config has one of its voters
  abbrev pub MajorityHasVoter : Type 0
  MajorityHasVoter =
      (config : List K) (s : K → Bool) → is_majority eq config s ≡ true
      → (id : K) × (is_member eq config id ≡ true) × (s id ≡ true)

  -- two quorums of the same configs share a voter, if there is a config
  abbrev pub QuorumsMeet : Type 0
  QuorumsMeet =
      (configs : List (List K)) (s t : K → Bool) → 0 < length configs
      → is_joint_majority eq configs s ≡ true → is_joint_majority eq configs t ≡ true
      → ShareVoter configs s t

  -- if two lists of configs are coherent, a quorum of one and a quorum of the other share a voter
  -- that is in both lists, if the first quorum has both or none of two equal ids
  abbrev pub CoherentQuorumsMeet : Type 0
  CoherentQuorumsMeet =
      (these others : List (List K)) (s t : K → Bool) → RespectsEquality s
      → is_coherent eq these others ≡ true → is_joint_majority eq these s ≡ true
      → is_joint_majority eq others t ≡ true → ShareCommonVoter these others s t

  -- the same voters, and the same quorums among the sets that contain both or neither of equal ids
  pub record HaveSameQuorums (these others : List (List K)) : Type 0 where
    pub voters : (id : K) → is_voter_of eq others id ≡ is_voter_of eq these id
    pub quorums : (set : K → Bool) → RespectsEquality set
        → is_joint_majority eq others set ≡ is_joint_majority eq these set

  -- lists of configs that are pairwise equal have the same voters and quorums
  abbrev pub EqualConfigsHaveSameQuorums : Type 0
  EqualConfigsHaveSameQuorums =
      (these others : List (List K)) → IsTrue (pointwise (pointwise eq) these others)
      → HaveSameQuorums these others

  -- an empty config has no quorum
  abbrev pub EmptyConfigHasNoQuorum : Type 0
  EmptyConfigHasNoQuorum = (s : K → Bool) → is_majority eq [] s ≡ false

  -- if there are no configs, every set is a quorum
  abbrev pub NoConfigsTakeEverySet : Type 0
  NoConfigsTakeEverySet = (s : K → Bool) → is_joint_majority eq [] s ≡ true

  -- a quorum of one stated size and a quorum of another share an id if the sum of the sizes is more
  -- than the number of ids, where equal ids count once
  abbrev pub AtLeastQuorumsMeet : Type 0
  AtLeastQuorumsMeet =
      (ids : List K) (need other : ℕ) (s t : K → Bool) → distinct_count eq ids < need + other
      → has_at_least eq ids need s ≡ true → has_at_least eq ids other t ≡ true
      → ShareMember ids s t

  -- if the stated size is more than the number of ids, where equal ids count once, no set is a
  -- quorum
  abbrev pub NeedPastIdsHasNoQuorum : Type 0
  NeedPastIdsHasNoQuorum = (ids : List K) (need : ℕ) (s : K → Bool) → distinct_count eq ids < need
      → has_at_least eq ids need s ≡ false
