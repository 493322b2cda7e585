-- What a step comes to.
use Rattle.std.specs.Prelude.{◌≡◌, Bool, true, false, Option, Some, None, not, if◌then◌else◌, cond, refl, MatchBool}
use Rattle.std.specs.declared.cmp.Ordering.{Ordering}
use Rattle.std.specs.Option.{is_some}
use Rattle.std.specs.Ordering.{partial_gt}
use Rattle.std.specs.Cmp.{IsEquivalence}
use Rattle.std.proofs.Common.{ap, sym, subst, true≢false, ◌∙◌}
use Rattle.raft_progress.specs.Inner.ViewAnswers.{IsViewIncrease}
use Rattle.raft_progress.specs.progress.CountedValue.{IsCounted}
use Rattle.raft_progress.specs.progress.InOrder.{IsInOrder}
use Rattle.raft_progress.specs.progress.ProgressState.{IsSame, ProgressState, Writes}
use Rattle.raft_progress.specs.progress.ProgressView.{ProgressView, state}
use Rattle.raft_progress.specs.progress.Steps.{IsIncreased, IsWritten, falls, stays}
use Rattle.raft_progress.specs.progress.Updated.{IsUpdated}
use Rattle.raft_progress.specs.declared.progress.steps.Reply.{Reply}
use Rattle.raft_progress.specs.declared.progress.steps.Reply.TheVariants.{Granted}
use Rattle.raft_progress.proofs.lemmas.progress.UpdateLemmas.{lookup_alike}

module _ {ID V P QS : Type 0} where
  -- what is the same everywhere is the same
  pub same_is_equal : (old new : ProgressState ID V P QS) → IsSame old new → new ≡ old
  same_is_equal old new s = λ i. record {
    quorum_set = s.quorum_set i;
    is_voter = λ x. s.is_voter x i;
    value = λ x. s.value x i;
    default_part = s.default_part i;
  }

  -- writing the value that is there changes nothing
  written_same : (eq : ID → ID → Bool) (old new : ProgressState ID V P QS) (id : ID) (v : V)
      → ((x y : ID) → eq x y ≡ true → old.value x ≡ old.value y) → old.value id ≡ Some v → Writes eq old id v new → IsSame old new
  written_same eq old new id v alike e w = record {
    quorum_set = w.quorum_set;
    is_voter = w.is_voter;
    value = λ x. w.value x ∙ by x (eq id x) refl;
    default_part = w.default_part;
  }
    where
      by : (x : ID) (b : Bool) → eq id x ≡ b → cond b (Some v) (old.value x) ≡ old.value x
      by x true t = sym (sym (alike id x t) ∙ e)
      by x false t = refl

module _ {ID V P QS : Type 0} {eq : ID → ID → Bool} (laws : IsEquivalence eq) (cmp : P → P → Ordering)
    (partial_cmp : V → V → Option Ordering) (part : V → P) (has_quorum : QS → (ID → Bool)
    → Bool) (old new : ProgressView ID V P QS) (id : ID)
    (value : V) (granted : P) (is_granted : granted ≡ new.granted)
    (u : IsUpdated eq cmp part (λ v w. w ≡ (if partial_gt partial_cmp value v then value else v)) old id new)
    (r : IsInOrder eq cmp part has_quorum new) where
  counted : IsCounted cmp part has_quorum (state eq new) granted
  counted = subst (IsCounted cmp part has_quorum (state eq new)) (sym is_granted) r.counted

  -- a known id, whose value stays or goes up
  pub increased : (v : V) → (state eq old).value id ≡ Some v
      → (stays partial_cmp ((state eq old).value id) value ≡ false → falls cmp part ((state eq old).value id) value ≡ false)
      → IsIncreased eq cmp partial_cmp part has_quorum (state eq old) id value (Granted granted) (state eq new)
  increased v e up =
      subst (λ (b : Bool). MatchBool b ((p : P) × (◌≡◌ {A = Reply ID P} (Granted granted) (Granted p))
      × IsCounted cmp part has_quorum (state eq old) p × IsSame (state eq old) (state eq new))
      (IsWritten eq cmp part has_quorum (state eq old) id value (Granted granted) (state eq new)))
      (sym (ap (λ o. stays partial_cmp o value) e)) (by (partial_gt partial_cmp value v) refl)
    where
      k : (w : V) × (w ≡ (if partial_gt partial_cmp value v then value else v)) × Writes eq (state eq old) id w (state eq new)
      k = let h = u.known v e in (h.0, h.1, h.2)

      by : (b : Bool) → partial_gt partial_cmp value v ≡ b
          → MatchBool (not b) ((p : P) × (◌≡◌ {A = Reply ID P} (Granted granted) (Granted p))
          × IsCounted cmp part has_quorum (state eq old) p × IsSame (state eq old) (state eq new))
          (IsWritten eq cmp part has_quorum (state eq old) id value (Granted granted) (state eq new))
      by true t =
          let is : k.0 ≡ value = k.1 ∙ ap (λ b. cond b value v) t in (
            v,
            e,
            sym (ap (λ o. falls cmp part o value) e)
                ∙ up (ap (λ o. stays partial_cmp o value) e ∙ ap not t),
            subst (λ (w : V). Writes eq (state eq old) id w (state eq new))
                is k.2,
            counted,
          )
      by false t =
          let is : k.0 ≡ v = k.1 ∙ ap (λ b. cond b value v) t in
          let same = written_same eq (state eq old) (state eq new) id v (λ x y h. lookup_alike laws x y h old.entries) e
          (subst (λ (w : V). Writes eq (state eq old) id w (state eq new)) is k.2) in (
            granted,
            refl,
            subst (λ (s : ProgressState ID V P QS). IsCounted cmp part has_quorum s granted)
                (same_is_equal (state eq old) (state eq new) same) counted,
            same,
          )

-- what a reply to an increase says of a progress that was updated
module _ {ID V P QS : Type 0} {eq : ID → ID → Bool} (laws : IsEquivalence eq) (cmp : P → P → Ordering) (part : V → P)
    (has_quorum : QS → (ID → Bool) → Bool) (old new : ProgressView ID V P QS) (id : ID) (value : V) (granted : P)
    (is_granted : granted ≡ new.granted) (after : IsInOrder eq cmp part has_quorum new) where
  present : (o : Option V) → is_some o ≡ true → (v : V) × (o ≡ Some v)
  present (Some v) h = (v, refl)
  present None h = absurd (true≢false (sym h))

  pub increase_known : (partial_cmp : V → V → Option Ordering)
      (u : IsUpdated eq cmp part (λ v w. w ≡ (if partial_gt partial_cmp value v then value else v)) old id new)
      → is_some ((state eq old).value id) ≡ true
      → (stays partial_cmp ((state eq old).value id) value ≡ false → falls cmp part ((state eq old).value id) value ≡ false)
      → IsViewIncrease eq cmp partial_cmp part has_quorum old id value (Granted granted) new
  increase_known partial_cmp u h up =
      let v = present ((state eq old).value id) h in
      record {
        values = increased laws cmp partial_cmp part has_quorum old new id value granted is_granted u after v.0 v.1 up;
        answered = record { refused = λ r. absurd (true≢false (sym r)); done = λ r. u; tells = is_granted };
      }
