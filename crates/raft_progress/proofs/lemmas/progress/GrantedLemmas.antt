-- Granted never falls over steps that keep the quorum set.
use Rattle.std.specs.Prelude.{◌≡◌, Bool, true, false, List, [], ◌∷◌}
use Rattle.std.specs.declared.cmp.Ordering.{Ordering}
use Rattle.std.specs.Cmp.{IsTotalOrder}
use Rattle.std.specs.List.{list_any}
use Rattle.std.proofs.Common.{refl, subst, sym, true≢false}
use Rattle.std.proofs.lemmas.Bool.{or_parts}
use Rattle.raft_progress.specs.progress.Answered.{IsAnswered, is_refused}
use Rattle.raft_progress.specs.progress.Comparisons.{Comparisons}
use Rattle.raft_progress.specs.progress.CountedValue.{AtMost}
use Rattle.raft_progress.specs.progress.Run.{Runs}
use Rattle.raft_progress.specs.progress.ProgressView.{ProgressView}
use Rattle.raft_progress.specs.progress.ViewSteps.{IsViewRun, IsViewStep, is_upgrade}
use Rattle.raft_progress.specs.tracked.TrackedViewSteps.{IsTrackedViewRun, IsTrackedViewStep, is_change}
use Rattle.raft_progress.specs.tracked.TrackedState.{TrackedView}
use Rattle.raft_progress.specs.declared.progress.steps.AnyStep.{AnyStep}
use Rattle.raft_progress.specs.declared.progress.steps.AnyStep.TheVariants as any_step
use Rattle.raft_progress.specs.declared.progress.steps.Reply.{Reply}
use Rattle.raft_progress.specs.declared.tracked.step.Step.{Step}
use Rattle.raft_progress.specs.declared.tracked.step.Step.TheVariants as step_of
use Rattle.raft_progress.proofs.lemmas.OrderLemmas.{AtMost-refl, AtMost-trans}

module _ {S A R : Type 0} (Made : S → A → R → S → Type 0) (Keeps : S → S → Type 0) (same : (s : S) → Keeps s s)
    (on : (a b c : S) → Keeps a b → Keeps b c → Keeps a c) (breaks : A → Bool)
    (kept : (old : S) (step : A) (reply : R) (new : S) → breaks step ≡ false → Made old step reply new → Keeps old new) where
  -- a run without the steps that break it keeps what each of the others keeps
  run_keeps : (old : S) (steps : List A) (replies : List R) (new : S) → Runs Made (λ a b. b ≡ a) old steps replies new
      → list_any breaks steps ≡ false → Keeps old new
  run_keeps old [] [] new is h = subst (Keeps old) (sym is) (same old)
  run_keeps old (x ∷ xs) (y ∷ ys) new (middle, here, rest) h =
      let parts = or_parts (breaks x) (list_any breaks xs) h in
      on old middle new (kept old x y middle parts.0 here) (run_keeps middle xs ys new rest parts.1)
  run_keeps old [] (y ∷ ys) new run h = absurd run
  run_keeps old (x ∷ xs) [] new run h = absurd run

-- a refused step keeps granted, and any other keeps it if what was done keeps it
answered_keeps : {ID P S : Type 0} {cmp : P → P → Ordering} (o : IsTotalOrder cmp) (granted_of : S → P) (Done : S → Type 0) (old : S)
    (reply : Reply ID P) (new : S) → IsAnswered granted_of Done old reply new → (Done new → AtMost cmp (granted_of old) (granted_of new))
    → AtMost cmp (granted_of old) (granted_of new)
answered_keeps {cmp = cmp} o granted_of Done old reply new a up = by (is_refused reply) refl
  where
    by : (b : Bool) → is_refused reply ≡ b → AtMost cmp (granted_of old) (granted_of new)
    by true t = subst (λ s. AtMost cmp (granted_of old) (granted_of s)) (sym (a.refused t)) (AtMost-refl o (granted_of old))
    by false t = up (a.done t)

module _ {ID V P QS : Type 0} (by : Comparisons ID V P) (o : IsTotalOrder by.cmp) (has_quorum : QS → (ID → Bool) → Bool)
    (is_voter : QS → ID → Bool) where
  abbrev NotLower : ProgressView ID V P QS → ProgressView ID V P QS → Type 0
  NotLower old new = AtMost by.cmp old.granted new.granted

  step_not_lower : (old : ProgressView ID V P QS) (step : AnyStep ID V QS) (reply : Reply ID P) (new : ProgressView ID V P QS)
      → is_upgrade step ≡ false
      → IsViewStep by has_quorum is_voter old step reply new → NotLower old new
  step_not_lower old (any_step.Update id value) reply new h s =
      answered_keeps o (λ p. p.granted) _ old reply new s.answered (λ u. u.monotone)
  step_not_lower old (any_step.IncreaseTo id value) reply new h s =
      answered_keeps o (λ p. p.granted) _ old reply new s.answered (λ u. u.monotone)
  step_not_lower old (any_step.Upgrade quorum_set learners default) reply new h s = absurd (true≢false h)

  -- granted is at least what it was, if no step is an upgrade
  pub run_not_lower : (old : ProgressView ID V P QS) (steps : List (AnyStep ID V QS)) (replies : List (Reply ID P))
      (new : ProgressView ID V P QS)
      → IsViewRun by has_quorum is_voter old steps replies new → list_any is_upgrade steps ≡ false → NotLower old new
  run_not_lower = run_keeps (IsViewStep by has_quorum is_voter) NotLower (λ s. AtMost-refl o s.granted)
      (λ a b c h k. AtMost-trans o a.granted b.granted c.granted h k) is_upgrade step_not_lower

module _ {K N V P : Type 0} (by : Comparisons K V P) (o : IsTotalOrder by.cmp) (same : N → N → Bool) where
  abbrev TrackedNotLower : TrackedView K N V P → TrackedView K N V P → Type 0
  TrackedNotLower old new = AtMost by.cmp old.progress.granted new.progress.granted

  pair_step_not_lower : (old : TrackedView K N V P) (step : Step K N V) (reply : Reply K P) (new : TrackedView K N V P)
      → is_change step ≡ false → IsTrackedViewStep by same old step reply new → TrackedNotLower old new
  pair_step_not_lower old (step_of.Update id value) reply new h s =
      answered_keeps o (λ t. t.progress.granted) _ old reply new s.answered (λ u. u.1.monotone)
  pair_step_not_lower old (step_of.IncreaseTo id value) reply new h s =
      answered_keeps o (λ t. t.progress.granted) _ old reply new s.answered (λ u. u.1.monotone)
  pair_step_not_lower old (step_of.Change change retain default) reply new h s = absurd (true≢false h)

  -- granted is at least what it was, if no step is a change
  pub tracked_run_not_lower : (old : TrackedView K N V P) (steps : List (Step K N V)) (replies : List (Reply K P))
      (new : TrackedView K N V P) → IsTrackedViewRun by same old steps replies new → list_any is_change steps ≡ false
      → TrackedNotLower old new
  tracked_run_not_lower = run_keeps (IsTrackedViewStep by same) TrackedNotLower (λ t. AtMost-refl o t.progress.granted)
      (λ a b c h k. AtMost-trans o a.progress.granted b.progress.granted c.progress.granted h k) is_change pair_step_not_lower
