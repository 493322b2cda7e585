-- What each quorum knows it knows after a run, over the changes that are made while it is granted.
use Rattle.std.specs.Prelude.{◌≡◌, ◌<◌, Bool, true, false, ◌&&◌, ◌||◌, cond, length, not, List, [], ◌∷◌, Option, Some, None, MatchBool, refl}
use Rattle.std.specs.Cmp.{IsEquivalence, IsTotalOrder}
use Rattle.std.specs.Ordering.{is_lt}
use Rattle.std.specs.declared.cmp.Ordering.{Ordering}
use Rattle.std.proofs.Common.{arith, ap, subst, sym, ◌∙◌, true≢false}
use Rattle.raft_members.specs.quorum.Coherence.{is_coherent}
use Rattle.raft_members.specs.quorum.Majority.{is_joint_majority}
use Rattle.raft_members.specs.membership.Members.{MemberList, members_of}
use Rattle.raft_members.specs.declared.change_members.ChangeMembers.{ChangeMembers}
use Rattle.raft_members.proofs.CallerLemmas.{changed_coherent}
use Rattle.raft_progress.specs.progress.Answered.{IsAnswered, is_refused}
use Rattle.raft_progress.specs.progress.Comparisons.{Comparisons}
use Rattle.raft_progress.specs.progress.CountedValue.{AtMost, IsCounted, has_part}
use Rattle.raft_progress.specs.progress.ProgressState.{IsSame, ProgressState, Writes}
use Rattle.raft_progress.specs.progress.ProgressView.{state}
use Rattle.raft_progress.specs.progress.Steps.{IsIncreased, IsWritten, stays}
use Rattle.raft_progress.specs.tracked.Known.{GrantedAtChanges, KnownOverChanges, KnownStays, QuorumsKnow, granted_after}
use Rattle.raft_progress.specs.tracked.TrackedViewSteps.{IsTrackedDone, IsTrackedViewRun, IsTrackedViewStep, is_change}
use Rattle.raft_progress.specs.tracked.TrackedState.{Configs, IsReady, TrackedView, has_quorum}
use Rattle.raft_progress.specs.declared.progress.steps.Reply.{Reply}
use Rattle.raft_progress.specs.declared.progress.steps.Reply.TheVariants.{Granted, Unknown, WouldFall, Refused, BelowDefault, BadLearners, OutOfMemory}
use Rattle.raft_progress.specs.declared.tracked.step.Step.{Step}
use Rattle.raft_progress.specs.declared.tracked.step.Step.TheVariants.{Update, IncreaseTo, Change}
use Rattle.raft_progress.proofs.lemmas.tracked.KnownLemmas.{change_keeps_granted}
use Rattle.raft_progress.proofs.lemmas.OrderLemmas.{AtMost-from_not_lt, AtMost-trans}
use Rattle.raft_progress.proofs.lemmas.progress.UpdateLemmas.{lookup_alike}

left_false : (a b : Bool) → (a || b) ≡ false → a ≡ false
left_false true b h = h
left_false false b h = refl

right_false : (a b : Bool) → (a || b) ≡ false → b ≡ false
right_false true b h = absurd (true≢false h)
right_false false b h = h

module _ {K V P : Type 0} (cmp : P → P → Ordering) (part : V → P) where
  -- the voters are the same, and no voter's part has fallen
  pub record Rises (old new : ProgressState K V P (Configs K)) : Type 0 where
    pub voters : (x : K) → new.is_voter x ≡ old.is_voter x
    pub parts : (x : K) (p : P) → has_part cmp part p (old.value x) ≡ true → has_part cmp part p (new.value x) ≡ true

  rises_same : (old new : ProgressState K V P (Configs K)) → IsSame old new → Rises old new
  rises_same old new s = record { voters = s.is_voter; parts = λ x p h. ap (has_part cmp part p) (s.value x) ∙ h }

module _ {K V P : Type 0} {eq : K → K → Bool} {cmp : P → P → Ordering} (o : IsTotalOrder cmp) (part : V → P) where
  rises_written : (old new : ProgressState K V P (Configs K)) → ((x y : K) → eq x y ≡ true → old.value x ≡ old.value y)
      → (id : K) (current value : V) → old.value id ≡ Some current → is_lt (cmp (part value) (part current)) ≡ false
      → Writes eq old id value new → Rises cmp part old new
  rises_written old new alike id current value e up w = record {
    voters = w.is_voter;
    parts = λ x p h. ap (has_part cmp part p) (w.value x) ∙ by x p (eq id x) refl h;
  }
    where
      by : (x : K) (p : P) (b : Bool) → eq id x ≡ b → has_part cmp part p (old.value x) ≡ true
          → has_part cmp part p (cond b (Some value) (old.value x)) ≡ true
      by x p true t h =
          let here : AtMost cmp p (part current) = sym (ap (has_part cmp part p) (sym (alike id x t) ∙ e)) ∙ h in
          AtMost-trans o p (part current) (part value) here (AtMost-from_not_lt o (part value) (part current) up)
      by x p false t h = h

  rises_step : (hq : Configs K → (K → Bool) → Bool) (old new : ProgressState K V P (Configs K))
      → ((x y : K) → eq x y ≡ true → old.value x ≡ old.value y) → (id : K) (value : V) (reply : Reply K P)
      → IsWritten eq cmp part hq old id value reply new → Rises cmp part old new
  rises_step hq old new alike id value (Granted p) (current, e, up, w, c) = rises_written old new alike id current value e up w
  rises_step hq old new alike id value (Unknown p) (e, c, s) = rises_same cmp part old new s
  rises_step hq old new alike id value WouldFall (current, e, f, s) = rises_same cmp part old new s
  rises_step hq old new alike id value (Refused why) w = absurd w
  rises_step hq old new alike id value (BelowDefault below) w = absurd w
  rises_step hq old new alike id value BadLearners w = absurd w
  rises_step hq old new alike id value OutOfMemory w = absurd w

  rises_increase : (partial_cmp : V → V → Option Ordering) (hq : Configs K → (K → Bool) → Bool) (old new : ProgressState K V P (Configs K))
      → ((x y : K) → eq x y ≡ true → old.value x ≡ old.value y) → (id : K) (value : V) (reply : Reply K P)
      → IsIncreased eq cmp partial_cmp part hq old id value reply new → Rises cmp part old new
  rises_increase partial_cmp hq old new alike id value reply = by (stays partial_cmp (old.value id) value)
    where
      by : (b : Bool) → MatchBool b ((p : P) × (reply ≡ Granted p) × IsCounted cmp part hq old p × IsSame old new)
          (IsWritten eq cmp part hq old id value reply new) → Rises cmp part old new
      by true (p, r, c, s) = rises_same cmp part old new s
      by false w = rises_step hq old new alike id value reply w

module _ {K N V P : Type 0} (by : Comparisons K V P) (laws : IsEquivalence by.eq) (o : IsTotalOrder by.cmp) (same : N → N → Bool) where
  abbrev Knows : TrackedView K N V P → P → Type 0
  Knows t p = QuorumsKnow by.eq by.cmp by.part t p

  -- the membership is the same, and each of its quorums knows what it knew
  abbrev Stays : TrackedView K N V P → TrackedView K N V P → Type 0
  Stays old new = (new.membership ≡ old.membership) × ((p : P) → Knows old p → Knows new p)

  carried : (old new : TrackedView K N V P) → new.membership ≡ old.membership
      → Rises by.cmp by.part (state by.eq old.progress) (state by.eq new.progress) → Stays old new
  carried old new members r = (
    members,
    λ p known set q.
        let k = known set (subst (λ (m : MemberList K N). is_joint_majority by.eq m.configs set ≡ true) members q) in
        (k.0, k.1, r.voters k.0 ∙ k.2, r.parts k.0 p k.3),
  )

  step_stays : (old new : TrackedView K N V P) (step : Step K N V) (reply : Reply K P) → is_change step ≡ false
      → IsTrackedViewStep by same old step reply new → Stays old new
  step_stays old new (Update id value) reply n s =
      carried old new s.values.0 (rises_step o by.part (has_quorum by.eq) (state by.eq old.progress) (state by.eq new.progress)
      (λ x y e. lookup_alike laws x y e old.progress.entries) id value reply s.values.1)
  step_stays old new (IncreaseTo id value) reply n s =
      carried old new s.values.0 (rises_increase o by.part by.partial_cmp (has_quorum by.eq) (state by.eq old.progress)
      (state by.eq new.progress) (λ x y e. lookup_alike laws x y e old.progress.entries) id value reply s.values.1)
  step_stays old new (Change change retain default) reply n s = absurd (true≢false n)

  pub known_stays : KnownStays K N V P by same
  known_stays old new [] [] n run = (ap (λ t. t.membership) run, λ p known. subst (λ (t : TrackedView K N V P). Knows t p) (sym run) known)
  known_stays old new (x ∷ xs) (r ∷ rs) n (middle, here, rest) =
      let first = step_stays old middle x r (left_false _ _ n) here in
      let later = known_stays middle new xs rs (right_false _ _ n) rest in
      (later.0 ∙ first.0, λ p known. later.1 p (first.1 p known))
  known_stays old new [] (r ∷ rs) n run = absurd run
  known_stays old new (x ∷ xs) [] n run = absurd run

  -- the membership has a config, and each of its quorums knows of p
  abbrev IsKnown : TrackedView K N V P → P → Type 0
  IsKnown t p = (0 < length t.membership.configs) × Knows t p

  has_other : (cs ds : List (List K)) → is_coherent by.eq cs ds ≡ true → 0 < length ds
  has_other cs [] h = absurd (true≢false (sym h))
  has_other cs (d ∷ ds) h = omega arith

  less : (a b : P) → AtMost by.cmp a b → (value : Option V) → has_part by.cmp by.part b value ≡ true
      → has_part by.cmp by.part a value ≡ true
  less a b up None h = h
  less a b up (Some v) h = AtMost-trans o a b (by.part v) up h

  kept : (old new : TrackedView K N V P) (p : P) → new ≡ old → IsKnown old p → IsKnown new p
  kept old new p is known = subst (λ (t : TrackedView K N V P). IsKnown t p) (sym is) known

  -- what is granted is known after a change, made or not
  changed_known : ((v w : V) → by.IsClone v w → by.part w ≡ by.part v) → (old new : TrackedView K N V P) (p : P)
      → IsReady by.eq by.id_cmp by.cmp by.part old → IsKnown old p
      → (change : ChangeMembers K N) (retain : Bool) (default : V) (reply : Reply K P)
      → IsTrackedViewStep by same old (Change change retain default) reply new
      → (is_refused reply ≡ false → AtMost by.cmp p old.progress.granted) → IsKnown new p
  changed_known clones old new p was known change retain default (Granted g) s at = (
    has_other old.membership.configs new.membership.configs
        (ap (λ cs. is_coherent by.eq old.membership.configs cs) s.values.1.0
        ∙ changed_coherent laws by.id_cmp (members_of by.id_cmp old.membership) change retain known.0),
    λ set q.
        let k = change_keeps_granted laws by.id_cmp same o by.part by.IsClone clones old new was s.ready change retain default g s.values
        known.0 set q in
        (k.0, k.1, k.2, less p old.progress.granted (at refl) ((state by.eq new.progress).value k.0) k.3),
  )
  changed_known clones old new p was known change retain default (Unknown g) s at = absurd s.values
  changed_known clones old new p was known change retain default WouldFall s at = kept old new p (s.answered.refused refl) known
  changed_known clones old new p was known change retain default (Refused why) s at = kept old new p (s.answered.refused refl) known
  changed_known clones old new p was known change retain default (BelowDefault id) s at = kept old new p (s.answered.refused refl) known
  changed_known clones old new p was known change retain default BadLearners s at = kept old new p (s.answered.refused refl) known
  changed_known clones old new p was known change retain default OutOfMemory s at = kept old new p (s.answered.refused refl) known

  -- a reply contains what is granted after it
  told : (step : Step K N V) (old new : TrackedView K N V P) (reply : Reply K P)
      → IsAnswered (λ t. t.progress.granted) (IsTrackedDone by old step) old reply new
      → granted_after old.progress.granted reply ≡ new.progress.granted
  told step old new (Granted p) a = a.tells
  told step old new (Unknown p) a = a.tells
  told step old new WouldFall a = ap (λ t. t.progress.granted) (sym (a.refused refl))
  told step old new (Refused why) a = ap (λ t. t.progress.granted) (sym (a.refused refl))
  told step old new (BelowDefault id) a = ap (λ t. t.progress.granted) (sym (a.refused refl))
  told step old new BadLearners a = ap (λ t. t.progress.granted) (sym (a.refused refl))
  told step old new OutOfMemory a = ap (λ t. t.progress.granted) (sym (a.refused refl))

  step_known : ((v w : V) → by.IsClone v w → by.part w ≡ by.part v) → (old new : TrackedView K N V P) (p : P)
      → IsReady by.eq by.id_cmp by.cmp by.part old → IsKnown old p → (step : Step K N V) (reply : Reply K P)
      → IsTrackedViewStep by same old step reply new
      → ((is_change step && not (is_refused reply)) ≡ true → AtMost by.cmp p old.progress.granted) → IsKnown new p
  step_known clones old new p was known (Change change retain default) reply s at =
      changed_known clones old new p was known change retain default reply s (λ r. at (ap not r))
  step_known clones old new p was known (Update id value) reply s at =
      let k = step_stays old new (Update id value) reply refl s in
      (subst (λ (m : MemberList K N). 0 < length m.configs) (sym k.0) known.0, k.1 p known.1)
  step_known clones old new p was known (IncreaseTo id value) reply s at =
      let k = step_stays old new (IncreaseTo id value) reply refl s in
      (subst (λ (m : MemberList K N). 0 < length m.configs) (sym k.0) known.0, k.1 p known.1)

  runs_known : ((v w : V) → by.IsClone v w → by.part w ≡ by.part v)
      → (old new : TrackedView K N V P) (steps : List (Step K N V)) (replies : List (Reply K P)) (p : P)
      → IsReady by.eq by.id_cmp by.cmp by.part old → IsTrackedViewRun by same old steps replies new
      → GrantedAtChanges by.cmp p old.progress.granted steps replies → IsKnown old p → IsKnown new p
  runs_known clones old new [] [] p was run at known = kept old new p run known
  runs_known clones old new (x ∷ xs) (r ∷ rs) p was (middle, here, rest) at known =
      runs_known clones middle new xs rs p here.ready rest
      (subst (λ (g : P). GrantedAtChanges by.cmp p g xs rs) (told x old middle r here.answered) at.1)
      (step_known clones old middle p was known x r here at.0)
  runs_known clones old new [] (r ∷ rs) p was run at known = absurd run
  runs_known clones old new (x ∷ xs) [] p was run at known = absurd run

  pub known_over_changes : KnownOverChanges K N V P by same
  known_over_changes clones old new steps replies p was some run at known =
      runs_known clones old new steps replies p was run at (some, known)
