-- Executions in which each config counts once it is applied.
use Rattle.std.specs.Prelude.{◌≡◌, ◌⊎◌, ◌≤◌, ℕ, Bool, true, Option, List, ◌∷◌, length, take}
use Rattle.safety_laws.specs.Log.{IsPrefix}
use Rattle.safety_laws.specs.Events.{History, log_after}
use Rattle.safety_laws.specs.Facts.{IsElectedBy}
use Rattle.safety_laws.specs.Safety.{IsSafeBy}
use Rattle.safety_laws.specs.Apply.{MayApplyBy}
use Rattle.safety_laws.specs.Ranks.{IsAmong}
use Rattle.safety_laws.specs.Configs.{QuorumsIntersect}
use Rattle.safety_laws.specs.AppliedConfigs.{KeepsQuorums, MayCountAcks, MayCountVotes, applied}
use Rattle.safety_laws.specs.Execution.{ConfigRules, FactsAreStableBy, IsExecutionBy, NextBy}

module _ {T ID D M : Type 0} (rank : T → ℕ) (config_of : D → Option M) (initial : M)
    (quorum_of : M → (ID → Bool) → Bool) where
  -- a cluster counts by configs that are known and that at most one config follows, and quorums of each
  -- new config intersect each other and those of the one before
  abbrev pub use_applied : ConfigRules T ID D M
  use_applied = record {
    counting = applied rank config_of initial quorum_of;
    config_of = config_of;
    may_append = λ h t c log m. KeepsQuorums rank config_of initial quorum_of log m;
  }

  -- a step: each server does one thing or nothing, and each leader appends. A candidate or leader goes
  -- on to count by the configs that it counts by, and begins to count by one only if it may, by what
  -- was committed before the step or is committed after it. So a candidate may become elected when it
  -- learns of a commit of an earlier term, whenever that is
  pub record NextWhenApplied (old new : History T ID D) : Type 0 where
    pub next : NextBy rank use_applied old new
    pub votes_stay : (t : T) (c : ID) (a : ℕ)
        → IsElectedBy rank (applied rank config_of initial quorum_of) old t c
        → old.votes_by t c a ≡ true → new.votes_by t c a ≡ true
    pub acks_stay : (t : T) (c : ID) (a : ℕ)
        → IsElectedBy rank (applied rank config_of initial quorum_of) old t c
        → old.acks_by t c a ≡ true → new.acks_by t c a ≡ true
    pub votes : (t : T) (c : ID) (a : ℕ)
        → IsElectedBy rank (applied rank config_of initial quorum_of) new t c
        → new.votes_by t c a ≡ true
        → (IsElectedBy rank (applied rank config_of initial quorum_of) old t c
        × (old.votes_by t c a ≡ true))
        ⊎ (MayCountVotes rank config_of initial quorum_of old t (take a (new.candidate_log t c))
        ⊎ MayCountVotes rank config_of initial quorum_of new t (take a (new.candidate_log t c)))
    pub acks : (t : T) (c : ID) (a : ℕ)
        → IsElectedBy rank (applied rank config_of initial quorum_of) new t c
        → new.acks_by t c a ≡ true
        → (IsElectedBy rank (applied rank config_of initial quorum_of) old t c
        × (old.acks_by t c a ≡ true))
        ⊎ ((a ≤ length (new.leader_log t c))
        × (MayCountAcks rank config_of initial quorum_of old t a (take a (new.leader_log t c))
        ⊎ MayCountAcks rank config_of initial quorum_of new t a (take a (new.leader_log t c))))

  -- a history came about by such steps, from these earlier ones, the latest first
  abbrev pub IsExecutionWhenApplied : History T ID D → List (History T ID D) → Type 0
  IsExecutionWhenApplied h earlier = IsExecutionBy NextWhenApplied h earlier

-- every execution is safe at each time
abbrev pub AppliedExecutionsAreSafe : Type 0 → Type 0 → Type 0 → Type 0 → Type 0
AppliedExecutionsAreSafe T ID D M =
    (rank : T → ℕ) (config_of : D → Option M) (initial : M) (quorum_of : M → (ID → Bool) → Bool)
    → QuorumsIntersect quorum_of initial initial → (last : History T ID D)
    (earlier : List (History T ID D))
    → IsExecutionWhenApplied rank config_of initial quorum_of last earlier
    → (h : History T ID D) → IsAmong h (last ∷ earlier)
    → IsSafeBy rank (applied rank config_of initial quorum_of) h

-- facts are stable over any number of steps
abbrev pub AppliedExecutionsKeepFacts : Type 0 → Type 0 → Type 0 → Type 0 → Type 0
AppliedExecutionsKeepFacts T ID D M =
    (rank : T → ℕ) (config_of : D → Option M) (initial : M) (quorum_of : M → (ID → Bool) → Bool)
    → QuorumsIntersect quorum_of initial initial → (last : History T ID D)
    (earlier : List (History T ID D))
    → IsExecutionWhenApplied rank config_of initial quorum_of last earlier
    → (h : History T ID D) → IsAmong h (last ∷ earlier)
    → FactsAreStableBy rank (applied rank config_of initial quorum_of) h last

-- state machine safety at all times: of what a server may apply at one time of an execution, and what
-- another may apply at another time, one is a prefix of the other
abbrev pub AppliedStateMachinesAgree : Type 0 → Type 0 → Type 0 → Type 0 → Type 0
AppliedStateMachinesAgree T ID D M =
    (rank : T → ℕ) (config_of : D → Option M) (initial : M) (quorum_of : M → (ID → Bool) → Bool)
    → QuorumsIntersect quorum_of initial initial → (last : History T ID D)
    (earlier : List (History T ID D))
    → IsExecutionWhenApplied rank config_of initial quorum_of last earlier
    → (g h : History T ID D) → IsAmong g (last ∷ earlier) → IsAmong h (last ∷ earlier) → (s r : ID)
    (i k : ℕ) → MayApplyBy rank (applied rank config_of initial quorum_of) g (g.events s) i
    → MayApplyBy rank (applied rank config_of initial quorum_of) h (h.events r) k
    → IsPrefix (take i (log_after (g.events s))) (take k (log_after (h.events r)))
    ⊎ IsPrefix (take k (log_after (h.events r))) (take i (log_after (g.events s)))
