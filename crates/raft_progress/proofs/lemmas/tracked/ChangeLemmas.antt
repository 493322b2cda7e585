-- The result of a change of the membership, and its reply.
use Rattle.std.specs.Prelude.{Bool, ◌≡◌, true, Err, IfErr, IfOk, None, Ok, OnErr, Result, Some, refl}
use Rattle.std.specs.declared.cmp.Ordering.{Ordering}
use Rattle.std.proofs.Common.{refl, subst, sym, true≢false, ◌∙◌}
use Rattle.raft_members.specs.membership.Change.{changed}
use Rattle.raft_members.specs.membership.Members.{MemberList, Members, HasMembers, members_of}
use Rattle.raft_members.specs.membership.Valid.{IsValid}
use Rattle.raft_members.specs.declared.change_members.ChangeMembers.{ChangeMembers}
use Rattle.raft_progress.specs.progress.ProgressState.{ProgressState}
use Rattle.raft_progress.specs.tracked.SingleSteps.{BothSwitchTo, IsTrackedChangeTo}
use Rattle.raft_progress.specs.tracked.TrackedState.{Configs, TrackedState, TrackedView, tracked_state}
use Rattle.raft_progress.specs.tracked.TrackedSteps.{SwitchesTo, IsChanged, IsSameTracked}
use Rattle.raft_progress.specs.declared.progress.steps.Reply.{Reply}
use Rattle.raft_progress.specs.declared.progress.steps.Reply.TheVariants.{Granted, BelowDefault, OutOfMemory, Refused}
use Rattle.raft_progress.proofs.lemmas.tracked.TrackedLemmas.{says_configs, says_learners}
use Rattle.raft_progress.proofs.lemmas.progress.UpdateLemmas.{IsSame-refl}
use Rattle.std.specs.Result.{result_unwrap_or}
use Rattle.raft_members.specs.membership.Refusal.{IsRefusal}
use Rattle.raft_members.specs.declared.error.ChangeMembershipErrorOf.{ChangeMembershipErrorOf}
use Rattle.raft_members.specs.declared.error.ChangeMembershipErrorOf.TheVariants.{InProgress, EmptyMembership, LearnerNotFound, OutOfMemory as WantOfMemory}
use Rattle.raft_progress.specs.Inner.Refusal.{refusal_reply}
use Rattle.raft_progress.specs.Inner.ViewAnswers.{IsViewChange}
use Rattle.raft_progress.specs.progress.Answered.{Tells, is_refused}

-- a membership and its progress are the same as themselves
pub IsSameTracked-refl : {K N V P : Type 0} (t : TrackedState K N V P) → IsSameTracked t t
IsSameTracked-refl t = record { membership = refl; progress = IsSame-refl t.progress }

module _ {K N V P : Type 0} (eq : K → K → Bool) (id_cmp : K → K → Ordering) (same : N → N → Bool) (cmp : P → P → Ordering) (part : V → P)
    (IsClone : V → V → Type 0) where
  -- going over to what says the same
  goes_over : (old new : ProgressState K V P (Configs K)) (list : MemberList K N) (w : Members K N) → HasMembers same id_cmp list w
      → (default : V) (reply : Reply K P) → SwitchesTo eq id_cmp cmp part IsClone old (members_of id_cmp list) default reply new
      → SwitchesTo eq id_cmp cmp part IsClone old w default reply new
  goes_over old new list w says default reply g =
      (g.0, g.1, says_configs eq id_cmp same list w says g.0 g.2, says_learners eq id_cmp same list w says g.1 g.3, g.4)

  -- an accepted change: both switch to the changed membership
  pub changed_step : (old : TrackedState K N V P) (change : ChangeMembers K N) (retain : Bool) (default : V) (next : MemberList K N)
      (new : TrackedState K N V P) → IsValid eq (changed eq id_cmp (members_of id_cmp old.membership) change retain)
      → HasMembers same id_cmp next (changed eq id_cmp (members_of id_cmp old.membership) change retain) → (reply : Reply K P)
      → BothSwitchTo eq id_cmp cmp part IsClone old next default reply new
      → IsChanged eq id_cmp same cmp part IsClone old change retain default reply new
  changed_step old change retain default next new valid says (Granted p) t =
      let w = changed eq id_cmp (members_of id_cmp old.membership) change retain in (
        valid,
        subst (λ (l : MemberList K N). HasMembers same id_cmp l w) (sym t.0) says,
        goes_over old.progress new.progress next w says default
            (Granted p) t.1,
      )
  changed_step old change retain default next new valid says (BelowDefault id) t =
      let w = changed eq id_cmp (members_of id_cmp old.membership) change retain in
      (valid, t.0, goes_over old.progress new.progress next w says default (BelowDefault id) t.1)
  changed_step old change retain default next new valid says OutOfMemory t = t
  changed_step old change retain default next new valid says reply t = absurd t

-- the reply to a switch to a membership, or out of memory if nothing has changed
pub change_or_memory : {K N V P E : Type 0} (eq : K → K → Bool) (id_cmp : K → K → Ordering) (cmp : P → P → Ordering) (part : V → P)
    (IsClone : V → V → Type 0) (old new : TrackedView K N V P) (next : MemberList K N) (default : V) (made : Result (Reply K P) E)
    → IfOk made (λ reply. IsTrackedChangeTo eq id_cmp cmp part IsClone old next default reply new) → OnErr made (new ≡ old)
    → IsTrackedChangeTo eq id_cmp cmp part IsClone old next default (result_unwrap_or made OutOfMemory) new
change_or_memory eq id_cmp cmp part IsClone old new next default (Ok reply) step kept = step
change_or_memory {K} {N} {V} {P} eq id_cmp cmp part IsClone old new next default (Err e) step kept =
    subst (λ (n : TrackedView K N V P). IsTrackedChangeTo eq id_cmp cmp part IsClone old next default OutOfMemory n) (sym kept)
    record {
      values = IsSameTracked-refl (tracked_state eq old);
      answered = record { refused = λ h. refl; done = λ h. absurd (true≢false h); tells = tt };
    }

module _ {K N V P : Type 0} (eq : K → K → Bool) (id_cmp : K → K → Ordering) (same : N → N → Bool) (cmp : P → P → Ordering) (part : V → P)
    (IsClone : V → V → Type 0)
    (old new : TrackedView K N V P) (change : ChangeMembers K N) (retain : Bool) (default : V)
  where
    abbrev pub after : Members K N
    after = changed eq id_cmp (members_of id_cmp old.membership) change retain

    same_tracked : IsSameTracked (tracked_state eq old) (tracked_state eq old)
    same_tracked = IsSameTracked-refl (tracked_state eq old)

    -- a reply that may answer the change with nothing changed
    unchanged : (reply given : Reply K P) → reply ≡ given → new ≡ old
        → IsChanged eq id_cmp same cmp part IsClone (tracked_state eq old) change retain default given (tracked_state eq old)
        → is_refused given ≡ true → Tells given old.progress.granted
        → IsViewChange eq id_cmp same cmp part IsClone old change retain default reply new
    unchanged reply given is kept values refused tells =
        subst (λ (n : TrackedView K N V P). IsViewChange eq id_cmp same cmp part IsClone old change retain default reply n) (sym kept)
        (subst (λ (r : Reply K P). IsViewChange eq id_cmp same cmp part IsClone old change retain default r old) (sym is)
        record {
          values = values;
          answered = record
              { refused = λ h. refl; done = λ h. absurd (true≢false (sym refused ∙ h)); tells = tells };
        })

    -- the reply to a change is what is made of the membership, or why it is refused
    pub change_answered : {C : Type 0} (made : Result (MemberList K N) (ChangeMembershipErrorOf C K)) (reply : Reply K P)
        → IfOk made (λ m. IsValid eq after) → IfOk made (λ m. HasMembers same id_cmp m after) → IfErr made (IsRefusal eq id_cmp after)
        → IfErr made (λ e. (reply ≡ refusal_reply e) × (new ≡ old))
        → IfOk made (λ next. IsTrackedChangeTo eq id_cmp cmp part IsClone old next default reply new)
        → IsViewChange eq id_cmp same cmp part IsClone old change retain default reply new
    change_answered (Ok next) reply valid says why refused taken = record {
      values = changed_step eq id_cmp same cmp part IsClone (tracked_state eq old) change retain default next (tracked_state eq new) valid
          says reply taken.values;
      answered = taken.answered;
    }
    change_answered (Err (InProgress e)) reply valid says why refused taken = absurd why
    change_answered (Err (EmptyMembership e)) reply valid says why refused taken =
        unchanged reply (Refused None) refused.0 refused.1 (why, same_tracked) refl tt
    change_answered (Err (LearnerNotFound e)) reply valid says why refused taken =
        unchanged reply (Refused (Some e.node_id)) refused.0 refused.1 (why.0, why.1, same_tracked) refl tt
    change_answered (Err WantOfMemory) reply valid says why refused taken =
        unchanged reply OutOfMemory refused.0 refused.1 same_tracked refl tt
