-- Calls of a membership and its progress as steps of a replay, and how replays compose.
use Rattle.std.specs.List.{list_any}
use Rattle.std.specs.Prelude.{◌≡◌, Bool, List, false}
use Rattle.raft_members.specs.membership.Change.{changed}
use Rattle.raft_members.specs.membership.Members.{MemberList, HasMembers, members_of}
use Rattle.raft_members.specs.membership.Valid.{IsValid}
use Rattle.raft_members.specs.declared.change_members.ChangeMembers.{ChangeMembers}
use Rattle.raft_progress.specs.progress.Calls.{Compose}
use Rattle.raft_progress.specs.progress.Comparisons.{Comparisons}
use Rattle.raft_progress.specs.progress.CountedValue.{AtMost}
use Rattle.raft_progress.specs.tracked.SingleSteps.{IsTrackedChangeTo, IsTrackedUpdate}
use Rattle.raft_progress.specs.tracked.TrackedViewSteps.{IsTrackedViewRun, IsTrackedViewStep, is_change}
use Rattle.raft_progress.specs.tracked.TrackedState.{IsReady, TrackedView, tracked_state}
use Rattle.raft_progress.specs.tracked.TrackedSteps.{IsTrackedRun}
use Rattle.raft_progress.specs.declared.progress.steps.Reply.{Reply}
use Rattle.raft_progress.specs.declared.tracked.step.Step.{Step}
use Rattle.raft_progress.specs.declared.tracked.step.Step.TheVariants.{Change, Update}

module _ (K N V P : Type 0) (by : Comparisons K V P) (same : N → N → Bool) where
  -- replays compose
  abbrev pub ReplaysCompose : Type 0
  ReplaysCompose = Compose (IsTrackedViewStep {V = V} {P = P} by same)

  -- over a replay, membership and values change as a run of them says
  abbrev pub ReplaysAreRunsOfValues : Type 0
  ReplaysAreRunsOfValues =
      (old new : TrackedView K N V P) (steps : List (Step K N V)) (replies : List (Reply K P))
      → IsTrackedViewRun by same old steps replies new
      → IsTrackedRun by same (tracked_state by.eq old) steps replies (tracked_state by.eq new)

  -- over a replay without a change granted never falls
  abbrev pub ReplaysNeverFall : Type 0
  ReplaysNeverFall =
      (old new : TrackedView K N V P) (steps : List (Step K N V)) (replies : List (Reply K P))
      → IsTrackedViewRun by same old steps replies new → list_any is_change steps ≡ false
      → AtMost by.cmp old.progress.granted new.progress.granted

  -- an update is a step, whatever its reply
  abbrev pub TrackedUpdatesAreSteps : Type 0
  TrackedUpdatesAreSteps =
      (old new : TrackedView K N V P) (id : K) (value : V) (reply : Reply K P)
      → IsTrackedUpdate by.eq by.cmp by.part old id value reply new
      → IsReady by.eq by.id_cmp by.cmp by.part new
      → IsTrackedViewStep by same old (Update id value) reply new

  -- a switch to a membership with the contents that a change makes of the present one is a step, if
  -- that membership is valid
  abbrev pub TrackedChangesAreSteps : Type 0
  TrackedChangesAreSteps =
      (old new : TrackedView K N V P) (change : ChangeMembers K N) (retain : Bool)
      (next : MemberList K N) (default : V) (reply : Reply K P)
      → IsValid by.eq (changed by.eq by.id_cmp (members_of by.id_cmp old.membership) change retain)
      → HasMembers same by.id_cmp next
      (changed by.eq by.id_cmp (members_of by.id_cmp old.membership) change retain)
      → IsTrackedChangeTo by.eq by.id_cmp by.cmp by.part by.IsClone old next default reply new
      → IsReady by.eq by.id_cmp by.cmp by.part new
      → IsTrackedViewStep by same old (Change change retain default) reply new
