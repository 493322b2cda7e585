-- What a server may apply, and state machine safety.
use Rattle.std.specs.Prelude.{◌⊎◌, ◌≤◌, ℕ, Bool, List, length, take}
use Rattle.safety_laws.specs.Log.{Entry, IsPrefix}
use Rattle.safety_laws.specs.Events.{Event, History, log_after}
use Rattle.safety_laws.specs.Facts.{Counting, IsCommittedBy, IsElectedBy, appended}
use Rattle.safety_laws.specs.Rules.{EventsFollowRulesBy, FollowsRaft}
use Rattle.safety_laws.specs.Safety.{IsSafe}

module _ {T ID D : Type 0} (rank : T → ℕ) (counting : Counting T ID D) (h : History T ID D) where
  -- the first k entries of a leader's log were committed by a leader, in its term or an earlier one
  pub record IsKnownCommittedBy (t : T) (c : ID) (k : ℕ) : Type 0 where
    pub in_term : T
    pub by_leader : ID
    pub committed_to : ℕ
    pub counted_at : ℕ
    pub committed : IsCommittedBy rank counting h in_term by_leader committed_to counted_at
    pub not_later : rank in_term ≤ rank t
    pub is : IsPrefix (take k (h.leader_log t c)) (take committed_to (h.leader_log in_term by_leader))

  -- a server may apply the first k entries of its log: they are the first ones of an elected leader's
  -- log, and known to be committed in the leader's term. They need not be durable at this server, so a
  -- leader may apply what a quorum of other servers has acknowledged
  pub record MayApplyBy (es : List (Event T ID D)) (k : ℕ) : Type 0 where
    pub term : T
    pub leader : ID
    pub elected : IsElectedBy rank counting h term leader
    pub written : k ≤ length (h.leader_log term leader)
    pub in_log : IsPrefix (take k (h.leader_log term leader)) (log_after es)
    pub known : IsKnownCommittedBy term leader k

  -- state machine safety: of what two servers may apply, each after some of its events, one is a
  -- prefix of the other. So no two servers ever apply different entries at one index
  abbrev pub StateMachineSafetyBy : Type 0
  StateMachineSafetyBy =
      (s r : ID) (es fs : List (Event T ID D)) (i k : ℕ) → EventsFollowRulesBy rank counting h s es
      → EventsFollowRulesBy rank counting h r fs → MayApplyBy es i → MayApplyBy fs k
      → IsPrefix (take i (log_after es)) (take k (log_after fs))
      ⊎ IsPrefix (take k (log_after fs)) (take i (log_after es))

-- ---- each config counts from its append on

module _ {T ID D : Type 0} (rank : T → ℕ) (quorum : List (Entry T D) → (ID → Bool) → Bool)
    (h : History T ID D) where
  abbrev pub IsKnownCommitted : T → ID → ℕ → Type 0
  IsKnownCommitted t c k = IsKnownCommittedBy rank (appended quorum) h t c k

  abbrev pub MayApply : List (Event T ID D) → ℕ → Type 0
  MayApply es k = MayApplyBy rank (appended quorum) h es k

  abbrev pub StateMachineSafety : Type 0
  StateMachineSafety = StateMachineSafetyBy rank (appended quorum) h

-- it holds in every safe history in which each server keeps the rules
abbrev pub StateMachinesAgree : Type 0 → Type 0 → Type 0 → Type 0
StateMachinesAgree T ID D =
    (rank : T → ℕ) (quorum : List (Entry T D) → (ID → Bool) → Bool) (h : History T ID D)
    → FollowsRaft rank quorum h → IsSafe rank quorum h → StateMachineSafety rank quorum h
