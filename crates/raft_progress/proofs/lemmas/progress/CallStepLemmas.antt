-- Calls of a progress are steps of a run, and runs compose.
use Rattle.std.specs.Prelude.{◌≡◌, Bool, true, false, [], ◌∷◌, None, MatchBool, Option, Some, not, refl}
use Rattle.std.specs.Cmp.{IsEquivalence, IsTotalOrder}
use Rattle.std.specs.Option.{ForSome, is_some}
use Rattle.std.specs.Ordering.{is_lt, partial_gt}
use Rattle.std.proofs.Common.{ap, subst, sym, true≢false}
use Rattle.raft_progress.specs.progress.Calls.{Compose, IncreasesAreSteps, UpdatesAreSteps, UpgradesAreSteps}
use Rattle.raft_progress.specs.progress.Comparisons.{Comparisons}
use Rattle.raft_progress.specs.progress.CountedValue.{AtMost, IsCounted}
use Rattle.raft_progress.specs.progress.ProgressState.{IsSame, Writes}
use Rattle.raft_progress.specs.progress.Run.{Runs}
use Rattle.raft_progress.specs.progress.ProgressView.{ProgressView, state}
use Rattle.raft_progress.specs.progress.Steps.{IsWritten, falls, stays}
use Rattle.raft_progress.specs.progress.Updated.{IsGreaterOf}
use Rattle.raft_progress.specs.declared.progress.steps.Reply.{Reply}
use Rattle.raft_progress.specs.declared.progress.steps.Reply.TheVariants.{Granted, Unknown}
use Rattle.raft_progress.proofs.lemmas.progress.recount.CountedValueLemmas.{not_both}
use Rattle.raft_progress.proofs.lemmas.progress.StepLemmas.{increase_known}
use Rattle.raft_progress.proofs.lemmas.progress.UpdateLemmas.{unknown_same}

pub runs_compose : {S A R : Type 0} (Step : S → A → R → S → Type 0) → Compose Step
runs_compose Step old middle new [] more [] others same run = subst (λ s. Runs Step (λ a b. b ≡ a) s more others new) same run
runs_compose Step old middle new (x ∷ xs) more (r ∷ rs) others (next, here, rest) run =
    (next, here, runs_compose Step next middle new xs more rs others rest run)
runs_compose Step old middle new [] more (r ∷ rs) others first run = absurd first
runs_compose Step old middle new (x ∷ xs) more [] others first run = absurd first

module _ {ID V P QS : Type 0} (by : Comparisons ID V P) (laws : IsEquivalence by.eq) (o : IsTotalOrder by.cmp)
    (has_quorum : QS → (ID → Bool) → Bool) (is_voter : QS → ID → Bool) where
  not_lower : (a b : P) → AtMost by.cmp a b → is_lt (by.cmp b a) ≡ false
  not_lower a b h = by_test (is_lt (by.cmp b a)) refl
    where
      by_test : (t : Bool) → is_lt (by.cmp b a) ≡ t → is_lt (by.cmp b a) ≡ false
      by_test true e = absurd (not_both o b a e h)
      by_test false e = e

  pub updates_are_steps : UpdatesAreSteps ID V P QS by has_quorum is_voter
  updates_are_steps old new id value was lower u is = record {
    known = λ v e.
        let k = u.known v e in
        record {
          values = (
            v,
            e,
            not_lower (by.part v) (by.part value) (lower v e),
            subst
                (λ (w : V). Writes by.eq (state by.eq old) id w (state by.eq new)) k.1 k.2,
            is.counted,
          );
          answered = record { refused = λ r. absurd (true≢false (sym r)); done = λ _. u; tells = refl };
          ordered = is;
        };
    unknown = λ e.
        let same = u.unknown e in
        record {
          values = (
            e,
            subst (λ (n : ProgressView ID V P QS). IsCounted by.cmp by.part has_quorum (state by.eq old) n.granted) (sym same)
                was.counted,
            unknown_same by.eq by.cmp by.part (λ v w. w ≡ value) old id new u e,
          );
          answered = record { refused = λ r. absurd (true≢false (sym r)); done = λ _. u; tells = refl };
          ordered = is;
        };
  }

  -- a value that is greater than the present one, if there is one, does not fall
  rising : (value : V) (o : Option V) → ForSome o
      (λ v. partial_gt by.partial_cmp value v ≡ true → AtMost by.cmp (by.part v) (by.part value)) → stays by.partial_cmp o value ≡ false
      → falls by.cmp by.part o value ≡ false
  rising value None lower s = refl
  rising value (Some v) lower s = not_lower (by.part v) (by.part value) (lower v refl (greater (partial_gt by.partial_cmp value v) s))
    where
      greater : (b : Bool) → not b ≡ false → b ≡ true
      greater true h = refl
      greater false h = absurd (true≢false h)

  pub increases_are_steps : IncreasesAreSteps ID V P QS by has_quorum is_voter
  increases_are_steps old new id value was lower u is = record {
    known = λ v e.
        let made = increase_known laws by.cmp by.part has_quorum old new id value new.granted refl is by.partial_cmp u (ap is_some e)
        (rising value ((state by.eq old).value id) lower) in
        record { values = made.values; answered = made.answered; ordered = is };
    unknown = λ e.
        let same = u.unknown e in
        record {
          values =
              subst (λ (b : Bool). MatchBool b
              ((p : P) × (◌≡◌ {A = Reply ID P} (Unknown new.granted) (Granted p))
              × IsCounted by.cmp by.part has_quorum (state by.eq old) p × IsSame (state by.eq old) (state by.eq new))
              (IsWritten by.eq by.cmp by.part has_quorum (state by.eq old) id value (Unknown new.granted) (state by.eq new)))
              (sym (ap (λ o. stays by.partial_cmp o value) e)) (
                e,
                subst (λ (n : ProgressView ID V P QS). IsCounted by.cmp by.part has_quorum (state by.eq old) n.granted)
                    (sym same) was.counted,
                unknown_same by.eq by.cmp by.part (IsGreaterOf by.partial_cmp value) old id new u e,
              );
          answered = record { refused = λ r. absurd (true≢false (sym r)); done = λ _. u; tells = refl };
          ordered = is;
        };
  }

  pub upgrades_are_steps : UpgradesAreSteps ID V P QS by has_quorum is_voter
  upgrades_are_steps old new quorum_set learners default fit can made fold is = record {
    values = (fit, can, made, is.counted);
    answered = record { refused = λ r. absurd (true≢false (sym r)); done = λ _. fold; tells = refl };
    ordered = is;
  }
