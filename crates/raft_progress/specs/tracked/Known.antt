-- What is granted stays known in every quorum, over changes of the membership.
use Rattle.std.specs.Prelude.{◌≡◌, ◌<◌, Bool, true, false, ◌&&◌, List, [], ◌∷◌, length, not, ⊤}
use Rattle.std.specs.List.{list_any}
use Rattle.std.specs.declared.cmp.Ordering.{Ordering}
use Rattle.raft_members.specs.quorum.Reached.{EachQuorumKnows}
use Rattle.raft_members.specs.declared.change_members.ChangeMembers.{ChangeMembers}
use Rattle.raft_progress.specs.progress.Answered.{is_refused}
use Rattle.raft_progress.specs.progress.Comparisons.{Comparisons}
use Rattle.raft_progress.specs.progress.CountedValue.{AtMost, has_part}
use Rattle.raft_progress.specs.progress.ProgressView.{state}
use Rattle.raft_progress.specs.tracked.TrackedState.{IsReady, TrackedView, tracked_state}
use Rattle.raft_progress.specs.tracked.TrackedViewSteps.{IsTrackedViewRun, is_change}
use Rattle.raft_progress.specs.tracked.TrackedSteps.{IsChanged}
use Rattle.raft_progress.specs.declared.progress.steps.Reply.{Reply}
use Rattle.raft_progress.specs.declared.tracked.step.Step.{Step}
use Rattle.raft_progress.specs.declared.progress.steps.Reply.TheVariants.{Granted, Unknown}

-- each quorum of the membership has a voter whose present part is at least p
abbrev pub QuorumsKnow : {K N V P : Type 0} → (K → K → Bool) → (P → P → Ordering) → (V → P)
    → TrackedView K N V P → P → Type 0
QuorumsKnow eq cmp part t p =
    EachQuorumKnows eq t.membership.configs (state eq t.progress).is_voter
    (λ id. has_part cmp part p ((state eq t.progress).value id))

module _ (K N V P : Type 0) (eq : K → K → Bool) (id_cmp : K → K → Ordering) (same : N → N → Bool)
    (cmp : P → P → Ordering) (part : V → P) (IsClone : V → V → Type 0) where
  -- after a change of a membership with a config, each quorum of the new membership has a voter of
  -- the new progress whose present part is at least what was granted before
  abbrev pub ChangeKeepsGranted : Type 0
  ChangeKeepsGranted =
      ((v w : V) → IsClone v w → part w ≡ part v)
      → (old new : TrackedView K N V P) → IsReady eq id_cmp cmp part old
      → IsReady eq id_cmp cmp part new → (change : ChangeMembers K N) (retain : Bool) (default : V)
      (g : P)
      → IsChanged eq id_cmp same cmp part IsClone (tracked_state eq old) change retain default
      (Granted g) (tracked_state eq new)
      → 0 < length old.membership.configs → QuorumsKnow eq cmp part new old.progress.granted

-- what is granted after a reply, if g was granted before the step
abbrev pub granted_after : {ID P : Type 0} → P → Reply ID P → P
granted_after g (Granted p) = p
granted_after g (Unknown p) = p
granted_after g reply = g

-- if g is granted at first, p is granted at each change that is made: no change is made while less
-- than p is granted
abbrev pub GrantedAtChanges : {K N V P : Type 0} → (P → P → Ordering) → P → P → List (Step K N V)
    → List (Reply K P) → Type 0
GrantedAtChanges cmp p g [] replies = ⊤
GrantedAtChanges cmp p g (step ∷ steps) [] = ⊤
GrantedAtChanges cmp p g (step ∷ steps) (reply ∷ replies) =
    ((is_change step && not (is_refused reply)) ≡ true → AtMost cmp p g)
    × GrantedAtChanges cmp p (granted_after g reply) steps replies

module _ (K N V P : Type 0) (by : Comparisons K V P) (same : N → N → Bool) where
  -- after a run without a change, the membership is what it was, and its quorums know what they knew
  abbrev pub KnownStays : Type 0
  KnownStays =
      (old new : TrackedView K N V P) (steps : List (Step K N V)) (replies : List (Reply K P))
      → list_any is_change steps ≡ false → IsTrackedViewRun by same old steps replies new
      → (new.membership ≡ old.membership)
      × ((p : P) → QuorumsKnow by.eq by.cmp by.part old p → QuorumsKnow by.eq by.cmp by.part new p)

  -- after a run with changes, its quorums know what they knew, if that is granted at each change
  -- that is made
  abbrev pub KnownOverChanges : Type 0
  KnownOverChanges =
      ((v w : V) → by.IsClone v w → by.part w ≡ by.part v)
      → (old new : TrackedView K N V P) (steps : List (Step K N V)) (replies : List (Reply K P))
      (p : P)
      → IsReady by.eq by.id_cmp by.cmp by.part old → 0 < length old.membership.configs
      → IsTrackedViewRun by same old steps replies new
      → GrantedAtChanges by.cmp p old.progress.granted steps replies
      → QuorumsKnow by.eq by.cmp by.part old p
      → (0 < length new.membership.configs) × QuorumsKnow by.eq by.cmp by.part new p
