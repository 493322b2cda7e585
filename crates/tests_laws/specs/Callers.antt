-- What callers make of the laws.
use Rattle.std.specs.Prelude.{◌≡◌, ◌⊎◌, ◌<◌, ℕ, Bool, true, Option, List, length}
use Rattle.std.specs.declared.cmp.Ordering.{Ordering}
use Rattle.std.specs.declared.cmp.Ordering.TheVariants.{Equal}
use Rattle.raft_members.specs.quorum.Majority.{has_at_least, is_joint_majority}
use Rattle.safety_laws.specs.Log.{Entry, IsPrefix}
use Rattle.safety_laws.specs.Events.{History}
use Rattle.safety_laws.specs.Rules.{FollowsRaft}
use Rattle.safety_laws.specs.Safety.{ElectionSafety, IsSafe}
use Rattle.safety_laws.specs.Configs.{FollowsRaftWithConfigs, is_quorum}
use Rattle.safety_laws.specs.Ranks.{rank_in}
use Rattle.safety_laws.specs.Trace.{AreExact, Tests, TraceEvent, WasApplied, are_allowed, campaign_terms}

-- a cluster whose membership never changes is safe
abbrev pub OneMembershipIsSafe : (T ID D : Type 0) → (ID → ID → Bool) → Type 0
OneMembershipIsSafe T ID D eq =
    (rank : T → ℕ) (configs : List (List ID)) → 0 < length configs → (h : History T ID D)
    → FollowsRaft rank (λ log set. is_joint_majority eq configs set) h
    → IsSafe rank (λ log set. is_joint_majority eq configs set) h

-- a cluster whose entries change the size of its quorums, by the rules, elects one leader in a term
abbrev pub QuorumSizesElectOne : (T ID D : Type 0) → (ID → ID → Bool) → Type 0
QuorumSizesElectOne T ID D eq =
    (ids : List ID) (rank : T → ℕ) (size_of : D → Option ℕ) (initial : ℕ) (h : History T ID D)
    → FollowsRaftWithConfigs rank size_of initial (has_at_least eq ids) h
    → ElectionSafety rank (is_quorum rank size_of initial (has_at_least eq ids)) h

-- a trace whose terms are ranked by their order, and which passes the test: of what two servers
-- applied, one is a prefix of the other
abbrev pub AllowedTracesAgree : (T ID D M : Type 0) → (T → T → Ordering) → Type 0
AllowedTracesAgree T ID D M cmp =
    ((x y : T) → cmp x y ≡ Equal → x ≡ y) → (k : Tests T ID D M) → AreExact k
    → (es : List (TraceEvent T ID D)) → ((t : T) → k.rank t ≡ rank_in cmp (campaign_terms es) t)
    → are_allowed k es ≡ true → (a b : List (Entry T D)) → WasApplied k a es → WasApplied k b es
    → IsPrefix a b ⊎ IsPrefix b a
