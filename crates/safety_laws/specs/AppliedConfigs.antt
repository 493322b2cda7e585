-- Configs that count once they are applied, as etcd and raft-rs have it: which config a candidate or
-- leader may count by.
--
-- A server has applied a config if it knows that the config is committed. A config in a log is known to
-- the candidate of a term if a leader of an earlier term has committed it. It is known to the leader of
-- a term also if this leader has committed it, counting by an earlier config. The initial config is
-- known to all.
--
-- That some leader has committed the config by then is not enough. A candidate of term 2 may get its
-- last vote after a leader of term 3 has committed a config. If it counts by that config, term 2 can
-- have two leaders.
use Rattle.std.specs.Prelude.{◌≡◌, ◌⊎◌, ◌<◌, ◌≤◌, ℕ, Bool, true, Option, Some, None, List, [], ◌∷◌, ◌++◌, length, take, drop}
use Rattle.safety_laws.specs.Log.{Entry, IsPrefix}
use Rattle.safety_laws.specs.Events.{History}
use Rattle.safety_laws.specs.Facts.{Counting, IsElectedBy, IsCommittedBy}
use Rattle.safety_laws.specs.Rules.{FollowsRaftBy}
use Rattle.safety_laws.specs.Safety.{IsSafeBy}
use Rattle.safety_laws.specs.Apply.{StateMachineSafetyBy}
use Rattle.safety_laws.specs.AppendEntries.{ConsistencyCheckSufficesBy}
use Rattle.safety_laws.specs.Configs.{HoldNoConfig, QuorumsIntersect, effective_config}

-- at most one of the entries holds a config
abbrev pub HoldAtMostOneConfig : {T D M : Type 0} → (D → Option M) → List (Entry T D) → Type 0
HoldAtMostOneConfig config_of [] = Unit {0}
HoldAtMostOneConfig config_of (e ∷ es) =
    HoldNoConfig config_of es ⊎ ((config_of e.content ≡ None) × HoldAtMostOneConfig config_of es)

module _ {T ID D M : Type 0} (rank : T → ℕ) (config_of : D → Option M) (initial : M)
    (quorum_of : M → (ID → Bool) → Bool) where
  -- the set is a quorum of a config by which the candidate counts, and at most one config follows in
  -- its log
  pub record ElectsByKnown (h : History T ID D) (t : T) (c : ID) (voters : ID → Bool) : Type 0 where
    pub counted_at : ℕ
    pub counts : h.votes_by t c counted_at ≡ true
    pub at_most_one : HoldAtMostOneConfig config_of (drop counted_at (h.candidate_log t c))
    pub is_quorum : quorum_of (effective_config config_of initial
        (take counted_at (h.candidate_log t c))) voters ≡ true

  -- the set is a quorum of a config by which the leader counts, and at most one config follows among
  -- the entries that it commits
  pub record CommitsByKnown (h : History T ID D) (t : T) (c : ID) (n counted_at : ℕ)
      (having : ID → Bool) : Type 0 where
    pub within : counted_at ≤ n
    pub counts : h.acks_by t c counted_at ≡ true
    pub at_most_one : HoldAtMostOneConfig config_of (drop counted_at (take n (h.leader_log t c)))
    pub is_quorum : quorum_of (effective_config config_of initial
        (take counted_at (h.leader_log t c))) having ≡ true

  -- a candidate or leader counts by a config that it knows to be committed, and that at most one
  -- config follows
  abbrev pub applied : Counting T ID D
  applied = record {
    elects = λ h t c voters. ElectsByKnown h t c voters;
    commits = λ h t c n counted_at having. CommitsByKnown h t c n counted_at having;
  }

  -- quorums of a config intersect each other and those of the last config in this log
  pub record KeepsQuorums (log : List (Entry T D)) (m : M) : Type 0 where
    pub old_and_new : QuorumsIntersect quorum_of (effective_config config_of initial log) m
    pub new : QuorumsIntersect quorum_of m m

  module _ (h : History T ID D) where
    -- the last config in a log was committed by a leader of a term that counted at a length, both early
    -- enough
    pub record IsKnown (early : T → ℕ → Type 0) (log : List (Entry T D)) : Type 0 where
      pub in_term : T
      pub by_leader : ID
      pub committed_to : ℕ
      pub counted_at : ℕ
      pub committed : IsCommittedBy rank applied h in_term by_leader committed_to counted_at
      pub before : early in_term counted_at
      pub known_to : ℕ
      pub is : IsPrefix (take known_to log) (take committed_to (h.leader_log in_term by_leader))
      pub none_since : HoldNoConfig config_of (drop known_to log)

    -- a log holds the initial config alone, or its last config is known
    abbrev pub IsInitialOrKnown : (T → ℕ → Type 0) → List (Entry T D) → Type 0
    IsInitialOrKnown early log = HoldNoConfig config_of log ⊎ IsKnown early log

    -- a candidate of this term may count by the last config in these first entries of its log: a leader
    -- of an earlier term has committed it
    abbrev pub MayCountVotes : T → List (Entry T D) → Type 0
    MayCountVotes t log = IsInitialOrKnown (λ (s : T) (b : ℕ). rank s < rank t) log

    -- a leader of this term may count by the last config in its first so many entries: a leader of an
    -- earlier term has committed it, or this one has, counting by an earlier config
    abbrev pub MayCountAcks : T → ℕ → List (Entry T D) → Type 0
    MayCountAcks t a log =
        IsInitialOrKnown (λ (s : T) (b : ℕ). (rank s < rank t) ⊎ ((rank s ≡ rank t) × (b < a))) log

    -- a candidate counts votes by configs that are known to it
    abbrev pub VotesByRule : T → ID → Type 0
    VotesByRule t c =
        (a : ℕ) → h.votes_by t c a ≡ true → MayCountVotes t (take a (h.candidate_log t c))

    -- a leader counts acknowledgements by configs that are known to it
    abbrev pub AcksByRule : T → ID → Type 0
    AcksByRule t c =
        (a : ℕ) → h.acks_by t c a ≡ true
        → (a ≤ length (h.leader_log t c)) × MayCountAcks t a (take a (h.leader_log t c))

    -- quorums of each config that a leader appends intersect each other and those of the one before it
    abbrev pub AppendsByRule : T → ID → Type 0
    AppendsByRule t c =
        (log : List (Entry T D)) (e : Entry T D) (m : M)
        → IsPrefix (log ++ e ∷ []) (h.leader_log t c) → length (h.candidate_log t c) ≤ length log
        → config_of e.content ≡ Some m → KeepsQuorums log m

    -- every server keeps the rules, also those of configs. Nothing else is required of a leader that
    -- appends a config: an engine makes sure by further rules that at most one config follows
    -- (`FollowsRaftWhenSettled`)
    pub record FollowsRaftWhenApplied : Type 0 where
      pub keeps_rules : FollowsRaftBy rank applied h
      pub initial_intersects : QuorumsIntersect quorum_of initial initial
      pub votes : (t : T) (c : ID) → IsElectedBy rank applied h t c → VotesByRule t c
      pub acks : (t : T) (c : ID) → IsElectedBy rank applied h t c → AcksByRule t c
      pub appends : (t : T) (c : ID) → IsElectedBy rank applied h t c → AppendsByRule t c

    -- a history has election safety, log matching and leader completeness, commits and state machines
    -- agree, and a follower that compares terms alone keeps the rules
    pub record IsSafeWhenApplied : Type 0 where
      pub safe : IsSafeBy rank applied h
      pub machines : StateMachineSafetyBy rank applied h
      pub followers : ConsistencyCheckSufficesBy rank applied h

-- if configs are used by these rules, every history in which each server keeps the rules is safe
abbrev pub AppliedConfigsAreSafe : Type 0 → Type 0 → Type 0 → Type 0 → Type 0
AppliedConfigsAreSafe T ID D M =
    (rank : T → ℕ) (config_of : D → Option M) (initial : M) (quorum_of : M → (ID → Bool) → Bool)
    (h : History T ID D) → FollowsRaftWhenApplied rank config_of initial quorum_of h
    → IsSafeWhenApplied rank config_of initial quorum_of h

-- ---- the rules as an engine keeps them

-- A config is appended only once the last one in the log is known. So a config that another one follows
-- in a log needs no further test: it was known to the leader that appended the next one
module _ {T ID D M : Type 0} (rank : T → ℕ) (config_of : D → Option M) (initial : M)
    (quorum_of : M → (ID → Bool) → Bool) (h : History T ID D) where
  -- a leader with this log may append a config: the last one in the log is known to it, and quorums of
  -- the new config intersect each other and those of the last one
  pub record MayAppendConfig (t : T) (log : List (Entry T D)) (m : M) : Type 0 where
    pub settled : MayCountAcks rank config_of initial quorum_of h t (length log) log
    pub quorums : KeepsQuorums rank config_of initial quorum_of log m

  -- the entry after the first so many of a log holds a config
  pub record IsFollowed (log : List (Entry T D)) (a : ℕ) : Type 0 where
    pub next : Entry T D
    pub next_config : M
    pub is : IsPrefix (take a log ++ next ∷ []) log
    pub within : a ≤ length log
    pub holds : config_of next.content ≡ Some next_config

  -- a candidate counts by a config that another one follows in its log, or that is known to it
  abbrev pub VotesByEither : T → ID → Type 0
  VotesByEither t c =
      (a : ℕ) → h.votes_by t c a ≡ true → IsFollowed (h.candidate_log t c) a
      ⊎ MayCountVotes rank config_of initial quorum_of h t (take a (h.candidate_log t c))

  -- and so does a leader
  abbrev pub AcksByEither : T → ID → Type 0
  AcksByEither t c =
      (a : ℕ) → h.acks_by t c a ≡ true → IsFollowed (h.leader_log t c) a
      ⊎ ((a ≤ length (h.leader_log t c))
      × MayCountAcks rank config_of initial quorum_of h t a (take a (h.leader_log t c)))

  -- every server keeps the rules in the form that it can test by itself
  pub record FollowsRaftWhenSettled : Type 0 where
    pub keeps_rules : FollowsRaftBy rank (applied rank config_of initial quorum_of) h
    pub initial_intersects : QuorumsIntersect quorum_of initial initial
    pub votes : (t : T) (c : ID) → IsElectedBy rank (applied rank config_of initial quorum_of) h t c
        → VotesByEither t c
    pub acks : (t : T) (c : ID) → IsElectedBy rank (applied rank config_of initial quorum_of) h t c
        → AcksByEither t c
    pub appends : (t : T) (c : ID) → IsElectedBy rank (applied rank config_of initial quorum_of) h t c
        → (log : List (Entry T D)) (e : Entry T D) (m : M)
        → IsPrefix (log ++ e ∷ []) (h.leader_log t c) → length (h.candidate_log t c) ≤ length log
        → config_of e.content ≡ Some m → MayAppendConfig t log m

-- these rules imply those above
abbrev pub SettledConfigsSuffice : Type 0 → Type 0 → Type 0 → Type 0 → Type 0
SettledConfigsSuffice T ID D M =
    (rank : T → ℕ) (config_of : D → Option M) (initial : M) (quorum_of : M → (ID → Bool) → Bool)
    (h : History T ID D) → FollowsRaftWhenSettled rank config_of initial quorum_of h
    → FollowsRaftWhenApplied rank config_of initial quorum_of h
