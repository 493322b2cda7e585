-- Which config is in effect in a log, and when a leader may propose another.
use Rattle.std.specs.Prelude.{◌≡◌, ◌<◌, ◌≤◌, ℕ, Bool, true, Option, Some, None, List, [], ◌∷◌, ◌++◌, length, drop}
use Rattle.std.specs.Option.{unwrap_or}
use Rattle.raft_members.specs.quorum.Coherence.{is_coherent, next_configs}
use Rattle.raft_members.specs.quorum.Majority.{is_joint_majority}
use Rattle.safety_laws.specs.Log.{Entry, IsPrefix}
use Rattle.safety_laws.specs.Events.{History}
use Rattle.safety_laws.specs.Facts.{IsElected, IsCommitted}
use Rattle.safety_laws.specs.Rules.{FollowsRaft}
use Rattle.safety_laws.specs.Safety.{IsSafe}

-- an entry may hold a config, `config_of` its content
module _ {T D M : Type 0} (config_of : D → Option M) where
  -- the config in effect at the end of a log: that of its last entry that holds one, and the initial
  -- one if none does. So a config takes effect when it is appended, as the Raft paper has it, and
  -- hashicorp's Raft and openraft do. In etcd it takes effect when it is applied: `AppliedConfigs` has
  -- the rules for that
  abbrev pub effective_config : M → List (Entry T D) → M
  effective_config initial [] = initial
  effective_config initial (e ∷ es) =
      effective_config (unwrap_or (config_of e.content) initial) es

  -- none of the entries holds a config
  abbrev pub HoldNoConfig : List (Entry T D) → Type 0
  HoldNoConfig [] = Unit {0}
  HoldNoConfig (e ∷ es) = (config_of e.content ≡ None) × HoldNoConfig es

-- any quorum of the one config and any quorum of the other share a server
abbrev pub QuorumsIntersect : {ID M : Type 0} → (M → (ID → Bool) → Bool) → M → M → Type 0
QuorumsIntersect {ID} quorum_of a b =
    (s t : ID → Bool) → quorum_of a s ≡ true → quorum_of b t ≡ true
    → (id : ID) × (s id ≡ true) × (t id ≡ true)

-- the initial config is in effect in an empty log
module _ {T ID D M : Type 0} (rank : T → ℕ) (config_of : D → Option M) (initial : M)
    (quorum_of : M → (ID → Bool) → Bool) where
  -- a set is a quorum of the config in effect in a log
  abbrev pub is_quorum : List (Entry T D) → (ID → Bool) → Bool
  is_quorum log set = quorum_of (effective_config config_of initial log) set

  module _ (h : History T ID D) where
    -- a leader with this log may propose a config: it has committed an entry of its own term, no
    -- entry after the committed ones holds a config, so the one in effect is committed too, and
    -- quorums of the new config intersect each other and those of the one in effect.
    --
    -- That the config in effect is committed is not enough: from `[A, B]` a leader could propose
    -- `[A]`, and a leader that does not know of this `[B]`, whose quorums need not intersect
    pub record MayProposeConfig (t : T) (c : ID) (log : List (Entry T D)) (m : M) : Type 0 where
      pub committed_to : ℕ
      pub counted_at : ℕ
      pub committed : IsCommitted rank is_quorum h t c committed_to counted_at
      pub before : counted_at ≤ length log
      pub none_since : HoldNoConfig config_of (drop committed_to log)
      pub old_and_new : QuorumsIntersect quorum_of (effective_config config_of initial log) m
      pub new : QuorumsIntersect quorum_of m m

    -- every config that a leader appends, it may propose
    abbrev pub ProposesByRule : T → ID → Type 0
    ProposesByRule t c =
        (log : List (Entry T D)) (e : Entry T D) (m : M)
        → IsPrefix (log ++ e ∷ []) (h.leader_log t c) → length (h.candidate_log t c) ≤ length log
        → config_of e.content ≡ Some m → MayProposeConfig t c log m

    -- every server keeps the rules, also those of configs
    pub record FollowsRaftWithConfigs : Type 0 where
      pub keeps_rules : FollowsRaft rank is_quorum h
      pub initial_intersects : QuorumsIntersect quorum_of initial initial
      pub proposals : (t : T) (c : ID) → IsElected rank is_quorum h t c → ProposesByRule t c

-- if configs change by these rules, every history in which each server keeps the rules is safe
abbrev pub ChangingMembersAreSafe : Type 0 → Type 0 → Type 0 → Type 0 → Type 0
ChangingMembersAreSafe T ID D M =
    (rank : T → ℕ) (config_of : D → Option M) (initial : M) (quorum_of : M → (ID → Bool) → Bool)
    (h : History T ID D) → FollowsRaftWithConfigs rank config_of initial quorum_of h
    → IsSafe rank (is_quorum rank config_of initial quorum_of) h

-- memberships of several configs, each a list of voters, as the layer has them: `eq` is the `==` of
-- ids, a quorum is a majority of each config, and two memberships are coherent if they share a config
module _ {T ID D : Type 0} (rank : T → ℕ) (eq : ID → ID → Bool)
    (configs_of : D → Option (List (List ID))) (initial : List (List ID)) (h : History T ID D) where
  -- a leader with this log may propose a membership that is coherent with the one in effect
  pub record MayProposeMembership (t : T) (c : ID) (log : List (Entry T D)) (next : List (List ID))
      : Type 0 where
    pub committed_to : ℕ
    pub counted_at : ℕ
    pub committed : IsCommitted rank (is_quorum rank configs_of initial (is_joint_majority eq)) h t c
        committed_to counted_at
    pub before : counted_at ≤ length log
    pub none_since : HoldNoConfig configs_of (drop committed_to log)
    pub coherent : is_coherent eq (effective_config configs_of initial log) next ≡ true

  -- every server keeps the rules, and leaders propose memberships by the rule. A membership without
  -- configs takes every set as a quorum, so the initial one has a config
  pub record FollowsRaftWithMemberships : Type 0 where
    pub keeps_rules : FollowsRaft rank (is_quorum rank configs_of initial (is_joint_majority eq)) h
    pub has_config : 0 < length initial
    pub proposals : (t : T) (c : ID)
        → IsElected rank (is_quorum rank configs_of initial (is_joint_majority eq)) h t c
        → (log : List (Entry T D)) (e : Entry T D) (next : List (List ID))
        → IsPrefix (log ++ e ∷ []) (h.leader_log t c) → length (h.candidate_log t c) ≤ length log
        → configs_of e.content ≡ Some next → MayProposeMembership t c log next

-- if ids that are `==` are equal, and memberships change to coherent ones by the rules, every history
-- in which each server keeps the rules is safe
abbrev pub JointMembersAreSafe : (T ID D : Type 0) → (ID → ID → Bool) → Type 0
JointMembersAreSafe T ID D eq =
    ((x y : ID) → eq x y ≡ true → x ≡ y) → (rank : T → ℕ)
    (configs_of : D → Option (List (List ID))) (initial : List (List ID)) (h : History T ID D)
    → FollowsRaftWithMemberships rank eq configs_of initial h
    → IsSafe rank (is_quorum rank configs_of initial (is_joint_majority eq)) h

-- the next step from a membership towards any config, as a change takes it, is coherent with it
abbrev pub StepsAreCoherent : (ID : Type 0) → (ID → ID → Bool) → Type 0
StepsAreCoherent ID eq =
    (configs : List (List ID)) (goal : List ID) → 0 < length configs
    → is_coherent eq configs (next_configs eq configs goal) ≡ true
