-- The membership and the progress that an init makes.
use Rattle.std.specs.Prelude.{◌≡◌, ◌||◌, ℕ, Bool, true, false, List, Option, Some, None, if◌then◌else◌, is_some, nat_eq}
use Rattle.std.specs.Ordering.{nat_cmp}
use Rattle.std.specs.Set.{is_member}
use Rattle.std.proofs.Common.{sym, ap, ◌∙◌, refl, true≢false}
use Rattle.std.proofs.Math.Bool.{or-true}
use Rattle.raft_base.specs.declared.node.EmptyNode.{EmptyNode}
use Rattle.raft_members.specs.membership.Defaults.{WithDefault}
use Rattle.raft_members.specs.quorum.Majority.{is_voter_of}
use Rattle.raft_members.specs.membership.Members.{MemberList, node_at}
use Rattle.raft_progress.specs.progress.NewProgress as new_progress
use Rattle.raft_progress.specs.progress.NewProgress.{HasClone}
use Rattle.raft_progress.specs.progress.ProgressView.{state}
use Rattle.raft_progress.specs.tracked.TrackedState.{Configs, IsReady, TrackedView, is_voter, tracked_state}
use Rattle.raft_script.specs.Engine.{IsStart, part}

or_or : (a b : Bool) → (a || (a || b)) ≡ (a || b)
or_or true b = refl
or_or false b = refl

-- there is a node exactly if one was needed or given
node_there : {N : Type 0} (IsDefault : N → Type 0) (learner voter : Bool) (given made : Option N) → WithDefault IsDefault None learner given
    → WithDefault IsDefault given voter made → is_some made ≡ (voter || learner)
node_there IsDefault true voter (Some g) made one two = ap is_some two ∙ sym (or-true voter)
node_there IsDefault true voter None made one two = absurd one
node_there IsDefault false voter (Some g) made one two = absurd (true≢false (ap is_some one))
node_there IsDefault false true None (Some n) one two = refl
node_there IsDefault false true None None one two = absurd two
node_there IsDefault false false None made one two = ap is_some two

-- a value that is there is the default
value_there : (among there : Bool) (default : ℕ) (value : Option ℕ) → (among ≡ true → HasClone (λ v w. w ≡ v) default value)
    → (among ≡ false → value ≡ None) → is_some value ≡ there → value ≡ (if there then Some default else None)
value_there true there default value some none known =
    let found = some refl in
    let is : value ≡ Some default = found.1 ∙ ap Some found.2 in
    is ∙ ap (λ (b : Bool). if b then Some default else None) (sym (ap is_some is) ∙ known)
value_there false there default value some none known =
    let is : value ≡ None = none refl in
    is ∙ ap (λ (b : Bool). if b then Some default else None) (sym (ap is_some is) ∙ known)

module _ (configs : List (List ℕ)) (learners : List ℕ) (default : ℕ) (made : TrackedView ℕ EmptyNode ℕ ℕ)
    (membership : MemberList ℕ EmptyNode) (same : made.membership ≡ membership) (same_configs : membership.configs ≡ configs)
    (IsDefault : EmptyNode → Type 0) (given : List (ℕ × EmptyNode))
    (gives : (id : ℕ) → WithDefault IsDefault None (is_member nat_eq learners id) (node_at nat_cmp given id))
    (with_voters : (id : ℕ) → WithDefault IsDefault (node_at nat_cmp given id) (is_voter_of nat_eq configs id)
    (node_at nat_cmp membership.nodes id)) where
  nodes : (id : ℕ) → is_some (node_at nat_cmp made.membership.nodes id) ≡ (is_voter_of nat_eq configs id || is_member nat_eq learners id)
  nodes id = ap (λ (m : MemberList ℕ EmptyNode). is_some (node_at nat_cmp m.nodes id)) same
      ∙ node_there IsDefault (is_member nat_eq learners id) (is_voter_of nat_eq configs id) (node_at nat_cmp given id)
      (node_at nat_cmp membership.nodes id) (gives id) (with_voters id)

  made_configs : made.membership.configs ≡ configs
  made_configs = ap (λ (m : MemberList ℕ EmptyNode). m.configs) same ∙ same_configs

  -- a new membership with its progress has the configs, and voters and learners at the default
  pub is_new : (joint : Configs ℕ) (ids : List ℕ)
      → new_progress.IsNew nat_eq (λ v w. w ≡ v) part (is_voter nat_eq joint) joint ids default (state nat_eq made.progress)
      → IsReady nat_eq nat_cmp nat_cmp part made → IsStart configs learners default (tracked_state nat_eq made)
  is_new joint ids new ready =
      let known : (id : ℕ) → is_some ((state nat_eq made.progress).value id)
      ≡ (is_voter_of nat_eq configs id || is_member nat_eq learners id) = λ id.
      ready.counts_by.known id
      ∙ ap (λ (cs : List (List ℕ)). is_voter_of nat_eq cs id || is_some (node_at nat_cmp made.membership.nodes id)) made_configs
      ∙ ap (λ (b : Bool). is_voter_of nat_eq configs id || b) (nodes id)
      ∙ or_or (is_voter_of nat_eq configs id) (is_member nat_eq learners id) in
      record {
        same_configs = made_configs;
        nodes = nodes;
        values = λ id. value_there (is_voter nat_eq joint id || is_member nat_eq ids id) _ default _ (new.value id) (new.others id)
            (known id);
        default_part = new.default_part;
        counts_by = ready.counts_by;
      }
