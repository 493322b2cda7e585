-- Executions: histories that come about step by step, over a network that may lose, delay, duplicate
-- and reorder messages, where servers crash and restart.
use Rattle.std.specs.Prelude.{◌≡◌, ◌⊎◌, ◌≤◌, ℕ, Bool, Option, Some, List, [], ◌∷◌, ◌++◌, length, take}
use Rattle.safety_laws.specs.Log.{Entry, IsPrefix, AllOfTerm}
use Rattle.safety_laws.specs.Events.{Event, GrantVote, LateVote, Append, Ack, Restart, History, log_after}
use Rattle.safety_laws.specs.Facts.{Counting, HasVoted, HasAcked, IsElectedBy, IsCommittedBy, IsAppendEntriesBy, appended}
use Rattle.safety_laws.specs.Rules.{MayGrantVoteBy, MayVoteLate, MayAppendBy, MayAckBy, MayRestart}
use Rattle.safety_laws.specs.Safety.{IsSafe}
use Rattle.safety_laws.specs.Apply.{MayApply}
use Rattle.safety_laws.specs.Ranks.{IsAmong}
use Rattle.safety_laws.specs.Configs.{is_quorum, QuorumsIntersect, MayProposeConfig}

-- how a cluster uses configs: how it counts, which config a content holds, if it holds one, and which
-- configs the leader of a term with this log may append
pub record ConfigRules (T ID D M : Type 0) : Type 1 where
  pub counting : Counting T ID D
  pub config_of : D → Option M
  pub may_append : History T ID D → T → ID → List (Entry T D) → M → Type 0

module _ {T ID D M : Type 0} (rank : T → ℕ) (rules : ConfigRules T ID D M) where
  module _ (old new : History T ID D) where
    -- an event is allowed by the history so far. The log with which a candidate asks for votes may be
    -- new with its vote for itself
    abbrev pub MayDoBy : ID → Event T ID D → Type 0
    MayDoBy s (GrantVote t c) =
        MayGrantVoteBy rank rules.counting new s (old.events s) t c
    MayDoBy s (LateVote t c) = MayVoteLate rank (old.events s) t
    MayDoBy s (Append t c log) =
        MayAppendBy rank rules.counting old (old.events s) t c log
    MayDoBy s (Ack t c n) =
        MayAckBy rank rules.counting old (old.events s) t c n
    MayDoBy s (Restart log) = MayRestart (old.events s) log

    -- a server does one thing
    pub record ServerStepBy (s : ID) : Type 0 where
      pub event : Event T ID D
      pub is : new.events s ≡ event ∷ old.events s
      pub may : MayDoBy s event

    -- no server has voted for the candidate in time yet, and it has written nothing as a leader
    pub record StartsCampaignBy (t : T) (c : ID) : Type 0 where
      pub no_votes : (s : ID) → HasVoted t c (old.events s) → ⊥
      pub nothing_written : new.leader_log t c ≡ new.candidate_log t c

    -- a leader appends entries of its term to its log, or none, and each config that it may propose
    pub record LeaderAppendsBy (t : T) (c : ID) : Type 0 where
      pub candidate_log : new.candidate_log t c ≡ old.candidate_log t c
      pub added : List (Entry T D)
      pub is : new.leader_log t c ≡ old.leader_log t c ++ added
      pub own_term : AllOfTerm t added
      pub configs : (log : List (Entry T D)) (e : Entry T D) (m : M)
          → IsPrefix (log ++ e ∷ []) (new.leader_log t c)
          → length (old.leader_log t c) ≤ length log → rules.config_of e.content ≡ Some m
          → rules.may_append old t c log m

    -- a step: each server does one thing or nothing, and each leader appends
    pub record NextBy : Type 0 where
      pub servers : (s : ID) → (new.events s ≡ old.events s) ⊎ ServerStepBy s
      pub leaders : (t : T) (c : ID) → StartsCampaignBy t c ⊎ LeaderAppendsBy t c
      pub ranks : (t u : T) (c d : ID)
          → IsElectedBy rank rules.counting new t c
          → IsElectedBy rank rules.counting new u d
          → rank t ≡ rank u → t ≡ u

module _ {T ID D : Type 0} where
  -- nothing has happened
  pub record Init (h : History T ID D) : Type 0 where
    pub events : (s : ID) → h.events s ≡ []
    pub nothing_written : (t : T) (c : ID) → h.leader_log t c ≡ h.candidate_log t c

  -- a history came about by steps of a kind, from these earlier ones, the latest first
  abbrev pub IsExecutionBy : (History T ID D → History T ID D → Type 0) → History T ID D
      → List (History T ID D) → Type 0
  IsExecutionBy step h [] = Init h
  IsExecutionBy step h (old ∷ earlier) = step old h × IsExecutionBy step old earlier

module _ {T ID D : Type 0} (rank : T → ℕ) (counting : Counting T ID D) where
  -- what was asked, sent, voted, acknowledged, elected or committed in an older history is so in a newer
  -- one. So a message may be received at any later time, more than once, in any order, or never. A
  -- candidate that somebody has voted for has asked with its log
  pub record FactsAreStableBy (old new : History T ID D) : Type 0 where
    pub sent : (t : T) (c : ID) (i : ℕ) (es : List (Entry T D))
        → IsAppendEntriesBy rank counting old t c i es
        → IsAppendEntriesBy rank counting new t c i es
    pub asked : (s : ID) (t : T) (c : ID) → HasVoted t c (old.events s)
        → new.candidate_log t c ≡ old.candidate_log t c
    pub voted : (s : ID) (t : T) (c : ID) → HasVoted t c (old.events s) → HasVoted t c (new.events s)
    pub acked : (s : ID) (t : T) (c : ID) (n : ℕ) → HasAcked t c n (old.events s)
        → HasAcked t c n (new.events s)
    pub elected : (t : T) (c : ID)
        → IsElectedBy rank counting old t c
        → IsElectedBy rank counting new t c
        × (new.candidate_log t c ≡ old.candidate_log t c)
        × IsPrefix (old.leader_log t c) (new.leader_log t c)
    pub committed : (t : T) (c : ID) (n a : ℕ)
        → IsCommittedBy rank counting old t c n a
        → IsCommittedBy rank counting new t c n a
        × (take n (new.leader_log t c) ≡ take n (old.leader_log t c))

-- ---- each config counts from its append on

module _ {T ID D M : Type 0} (rank : T → ℕ) (config_of : D → Option M) (initial : M)
    (quorum_of : M → (ID → Bool) → Bool) where
  -- a cluster counts by the config in effect, and proposes another by the rule
  abbrev pub use_appended : ConfigRules T ID D M
  use_appended = record {
    counting = appended (is_quorum rank config_of initial quorum_of);
    config_of = config_of;
    may_append = λ h t c log m. MayProposeConfig rank config_of initial quorum_of h t c log m;
  }

  module _ (old new : History T ID D) where
    abbrev pub MayDo : ID → Event T ID D → Type 0
    MayDo s event = MayDoBy rank use_appended old new s event

    abbrev pub ServerStep : ID → Type 0
    ServerStep s = ServerStepBy rank use_appended old new s

    abbrev pub StartsCampaign : T → ID → Type 0
    StartsCampaign t c = StartsCampaignBy rank use_appended old new t c

    abbrev pub LeaderAppends : T → ID → Type 0
    LeaderAppends t c = LeaderAppendsBy rank use_appended old new t c

    abbrev pub Next : Type 0
    Next = NextBy rank use_appended old new

    abbrev pub FactsAreStable : Type 0
    FactsAreStable = FactsAreStableBy rank (appended (is_quorum rank config_of initial quorum_of)) old new

  abbrev pub IsExecution : History T ID D → List (History T ID D) → Type 0
  IsExecution h earlier = IsExecutionBy Next h earlier

-- every execution is safe at each time
abbrev pub ExecutionsAreSafe : Type 0 → Type 0 → Type 0 → Type 0 → Type 0
ExecutionsAreSafe T ID D M =
    (rank : T → ℕ) (config_of : D → Option M) (initial : M) (quorum_of : M → (ID → Bool) → Bool)
    → QuorumsIntersect quorum_of initial initial → (last : History T ID D)
    (earlier : List (History T ID D)) → IsExecution rank config_of initial quorum_of last earlier
    → (h : History T ID D) → IsAmong h (last ∷ earlier)
    → IsSafe rank (is_quorum rank config_of initial quorum_of) h

-- facts are stable over any number of steps
abbrev pub ExecutionsKeepFacts : Type 0 → Type 0 → Type 0 → Type 0 → Type 0
ExecutionsKeepFacts T ID D M =
    (rank : T → ℕ) (config_of : D → Option M) (initial : M) (quorum_of : M → (ID → Bool) → Bool)
    → QuorumsIntersect quorum_of initial initial → (last : History T ID D)
    (earlier : List (History T ID D)) → IsExecution rank config_of initial quorum_of last earlier
    → (h : History T ID D) → IsAmong h (last ∷ earlier)
    → FactsAreStable rank config_of initial quorum_of h last

-- state machine safety at all times: of what a server may apply at one time of an execution, and what
-- another may apply at another time, one is a prefix of the other
abbrev pub StateMachinesAgreeAtAllTimes : Type 0 → Type 0 → Type 0 → Type 0 → Type 0
StateMachinesAgreeAtAllTimes T ID D M =
    (rank : T → ℕ) (config_of : D → Option M) (initial : M) (quorum_of : M → (ID → Bool) → Bool)
    → QuorumsIntersect quorum_of initial initial → (last : History T ID D)
    (earlier : List (History T ID D)) → IsExecution rank config_of initial quorum_of last earlier
    → (g h : History T ID D) → IsAmong g (last ∷ earlier) → IsAmong h (last ∷ earlier) → (s r : ID)
    (i k : ℕ) → MayApply rank (is_quorum rank config_of initial quorum_of) g (g.events s) i
    → MayApply rank (is_quorum rank config_of initial quorum_of) h (h.events r) k
    → IsPrefix (take i (log_after (g.events s))) (take k (log_after (h.events r)))
    ⊎ IsPrefix (take k (log_after (h.events r))) (take i (log_after (g.events s)))
