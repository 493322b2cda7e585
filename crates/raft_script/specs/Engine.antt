-- What an engine contains, and what a step does to it.
use Rattle.std.specs.Prelude.{◌≡◌, ◌||◌, ℕ, Bool, List, [], ◌∷◌, Option, Some, None, if◌then◌else◌, is_some, nat_eq, true}
use Rattle.std.specs.Ordering.{nat_cmp, as_partial_cmp}
use Rattle.std.specs.Option.{option_map}
use Rattle.std.specs.Set.{is_member}
use Rattle.raft_base.specs.declared.node.EmptyNode.{EmptyNode}
use Rattle.raft_members.specs.quorum.Majority.{is_voter_of}
use Rattle.raft_members.specs.membership.Members.{node_at}
use Rattle.raft_progress.specs.progress.Comparisons.{Comparisons}
use Rattle.raft_progress.specs.progress.CountedValue.{IsCounted}
use Rattle.raft_progress.specs.tracked.Headline.{ChangedQuorumsKnowGranted, QuorumsKnowGranted}
use Rattle.raft_progress.specs.progress.ProgressView.{state}
use Rattle.raft_progress.specs.tracked.Tracked.{tracked_view}
use Rattle.raft_progress.specs.tracked.TrackedState as tracked_state
use Rattle.raft_progress.specs.tracked.TrackedState.{CountsBy, TrackedView, TrackedState, has_quorum}
use Rattle.raft_progress.specs.tracked.TrackedSteps.{IsTrackedRun}
use Rattle.raft_progress.specs.declared.progress.steps.Reply.{Reply}
use Rattle.raft_progress.specs.declared.tracked.step.Step.{Step}
use Rattle.raft_script.specs.declared.script.engine.Engine.{Engine}

-- an id's value is the part that is compared
abbrev pub part : ℕ → ℕ
part value = value

-- empty nodes are equal
abbrev pub same_node : EmptyNode → EmptyNode → Bool
same_node n m = true

-- ids, parts and values are numbers: they compare as numbers, and a clone is the same number
abbrev pub by_number : Comparisons ℕ ℕ ℕ
by_number =
    record {
      eq = nat_eq;
      id_cmp = nat_cmp;
      cmp = nat_cmp;
      partial_cmp = as_partial_cmp nat_cmp;
      part = part;
      IsClone = λ v w. w ≡ v;
    }

-- what contracts see of a membership and its progress
abbrev pub EngineView : Type 0
EngineView = TrackedView ℕ EmptyNode ℕ ℕ

-- a membership and its progress, apart from how they are stored
abbrev pub EngineState : Type 0
EngineState = TrackedState ℕ EmptyNode ℕ ℕ

-- what contracts see of an engine's membership and its progress, if the engine has them
abbrev pub engine_view : Engine → Option EngineView
engine_view engine = option_map tracked_view engine.tracked

-- an engine's membership and its progress, apart from how they are stored, if it has them
abbrev pub engine_state : Engine → Option EngineState
engine_state engine =
    option_map (λ t. tracked_state.tracked_state nat_eq (tracked_view t)) engine.tracked

-- the membership has the configs, and a node for each voter and learner, which all have the
-- default; the progress counts by it
pub record IsStart (configs : List (List ℕ)) (learners : List ℕ) (default : ℕ) (made : EngineState)
    : Type 0 where
  pub same_configs : made.membership.configs ≡ configs
  pub nodes : (id : ℕ)
      → is_some (node_at nat_cmp made.membership.nodes id)
      ≡ (is_voter_of nat_eq configs id || is_member nat_eq learners id)
  pub values : (id : ℕ)
      → made.progress.value id ≡ (if is_voter_of nat_eq configs id || is_member nat_eq learners id
      then Some default else None)
  pub default_part : made.progress.default_part ≡ default
  pub counts_by : CountsBy nat_eq nat_cmp made

-- the step may have this reply, from one tracked progress to another
abbrev pub IsEngineStep : EngineState → Step ℕ EmptyNode ℕ → Reply ℕ ℕ → EngineState → Type 0
IsEngineStep old step reply new = IsTrackedRun by_number same_node old (step ∷ []) (reply ∷ []) new

-- a tracked progress replies to each step, and without one there is no reply
abbrev pub AnswersStep : Option EngineState → Step ℕ EmptyNode ℕ → Option (Reply ℕ ℕ)
    → Option EngineState → Type 0
AnswersStep None step None new = new ≡ None
AnswersStep None step (Some reply) new = ⊥
AnswersStep (Some old) step None new = ⊥
AnswersStep (Some old) step (Some reply) new =
    (next : EngineState) × (new ≡ Some next) × IsEngineStep old step reply next

-- granted is the counted value, and each quorum, now and after one change of the membership, has a
-- voter with at least that value
abbrev pub GrantedIsKnown : EngineView → Type 0
GrantedIsKnown t =
    IsCounted nat_cmp part (has_quorum nat_eq) (state nat_eq t.progress) t.progress.granted
    × QuorumsKnowGranted nat_eq nat_cmp part t
    × ChangedQuorumsKnowGranted nat_eq nat_cmp nat_cmp part t
