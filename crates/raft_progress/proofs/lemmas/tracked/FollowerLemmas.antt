-- What a value with the part of the present one makes of a tracked progress, and what an
-- acknowledgement makes of it.
use Rattle.std.specs.Prelude.{◌≡◌, Bool, true, false, cond, List, [], ◌∷◌, Option, Some, None, Result, Ok, Err, refl}
use Rattle.std.specs.Cmp.{IsEquivalence, IsTotalOrder}
use Rattle.std.specs.Map.{lookup, set_value}
use Rattle.std.specs.declared.cmp.Ordering.{Ordering}
use Rattle.std.proofs.Common.{ap, sym, subst}
use Rattle.raft_progress.specs.Inner.ViewAnswers.{IsViewWrite}
use Rattle.raft_progress.specs.progress.InOrder.{IsInOrder}
use Rattle.raft_progress.specs.progress.Kept.{with_value}
use Rattle.raft_progress.specs.progress.ProgressState.{Writes}
use Rattle.raft_progress.specs.progress.ProgressView.{state}
use Rattle.raft_progress.specs.progress.Steps.{IsWritten}
use Rattle.raft_progress.specs.tracked.Followers.{IsResponse, member_value, with_member_value}
use Rattle.raft_progress.specs.tracked.SingleSteps.{IsTrackedUpdate}
use Rattle.raft_progress.specs.tracked.TrackedState.{IsReady, TrackedView, has_quorum}
use Rattle.raft_progress.specs.declared.progress.steps.Reply.TheVariants.{Granted}
use Rattle.raft_progress.proofs.CallerLemmas.{in_order_kept, with_value_keeps}
use Rattle.raft_progress.proofs.lemmas.OrderLemmas.{AtMost-refl, not_lt-from_AtMost}
use Rattle.raft_progress.proofs.lemmas.progress.UpdateLemmas.{writes}
use Rattle.raft_progress.proofs.lemmas.tracked.ReadyLemmas.{ready_of, ready_written}

-- the value that is there, written again, changes nothing
same_value : {K V : Type 0} (test : K → Bool) (entries : List (K × V)) (v : V) → lookup test entries ≡ Some v
    → set_value test entries v ≡ entries
same_value test [] v known = refl
same_value {K} {V} test (e ∷ es) v known = by (test e.0) known (same_value test es v)
  where
    by : (b : Bool) → cond b (Some e.1) (lookup test es) ≡ Some v → (lookup test es ≡ Some v → set_value test es v ≡ es)
        → cond b ((e.0, v) ∷ es) (e ∷ set_value test es v) ≡ e ∷ es
    by true is rest = let same : e.1 ≡ v = cc in ap (λ (u : V). (e.0, u) ∷ es) (sym same)
    by false is rest = ap (λ fs. e ∷ fs) (rest is)

module _ {K N V P : Type 0} (eq : K → K → Bool) (old : TrackedView K N V P) (id : K) where
  -- the value of a member in place of itself changes nothing
  pub same_member : (v : V) → member_value eq old id ≡ Some v → with_member_value eq old id v ≡ old
  same_member v known =
      ap (λ es. record old { progress = record old.progress { entries = es } }) (same_value (eq id) old.progress.entries v known)

  -- a value of a known member is written
  pub member_writes : IsEquivalence eq → (v w : V) → member_value eq old id ≡ Some v
      → Writes eq (state eq old.progress) id w (state eq (with_value eq old.progress id w))
  member_writes laws v w known =
      writes laws old.progress.entries (set_value (eq id) old.progress.entries w) id v w known refl old.progress.quorum_set
      old.progress.quorum_set old.progress.voter_count old.progress.voter_count old.progress.default_part old.progress.default_part refl
      refl refl

module _ {K N V P : Type 0} {eq : K → K → Bool} (laws : IsEquivalence eq) (id_cmp : K → K → Ordering) {cmp : P → P → Ordering}
    (o : IsTotalOrder cmp) (part : V → P) (lists : IsSet (List (List K))) (old new : TrackedView K N V P)
    (h : ∥ IsReady eq id_cmp cmp part old ∥₁) (id : K) where
  -- a value with the part of the present one keeps it ready
  pub ready_kept : (v w : V) → member_value eq old id ≡ Some v → part w ≡ part v → new ≡ with_member_value eq old id w
      → IsReady eq id_cmp cmp part new
  ready_kept v w known same is =
      let ready = ready_of laws id_cmp o part lists old h in
      let after = with_value eq old.progress id w in
      let order : IsInOrder eq cmp part (has_quorum eq) after =
      in_order_kept eq part cmp (has_quorum eq) old.progress after (with_value_keeps eq part old.progress id v w known (λ t. same))
      ready.ordered in
      let stays = not_lt-from_AtMost o (part v) (part w) (rw same (AtMost-refl o (part v))) in
      let written : IsWritten eq cmp part (has_quorum eq) (state eq old.progress) id w (Granted old.progress.granted) (state eq after) =
      (v, known, stays, member_writes eq old id laws v w known, order.counted) in
      subst (IsReady eq id_cmp cmp part) (sym is)
      (ready_written laws id_cmp o part lists old (with_member_value eq old id w) refl h order id w (Granted old.progress.granted) written)

  module _ {U E : Type 0} (table : V → Result V E) (kept : new.membership ≡ old.membership) where
    -- an acknowledgement keeps it ready
    pub ready_acknowledged : IsInOrder eq cmp part (has_quorum eq) new.progress → (result : Option (Result U E))
        → IsResponse (member_value eq old id) table
        (λ next. IsViewWrite eq cmp part (has_quorum eq) old.progress id next (Granted new.progress.granted) new.progress)
        old.progress result new.progress → IsReady eq id_cmp cmp part new
    ready_acknowledged order (Some (Ok u)) a =
        ready_written laws id_cmp o part lists old new kept h order id a.1 (Granted new.progress.granted) a.4.values
    ready_acknowledged order (Some (Err e)) a =
        subst (IsReady eq id_cmp cmp part) (λ i. record { membership = sym kept i; progress = sym a.3 i })
        (ready_of laws id_cmp o part lists old h)
    ready_acknowledged order None a =
        subst (IsReady eq id_cmp cmp part) (λ i. record { membership = sym kept i; progress = sym a.1 i })
        (ready_of laws id_cmp o part lists old h)

    -- and is an update of the member, if it is taken
    pub acknowledged : (result : Option (Result U E)) → IsResponse (member_value eq old id) table
        (λ next. IsViewWrite eq cmp part (has_quorum eq) old.progress id next (Granted new.progress.granted) new.progress)
        old.progress result new.progress
        → IsResponse (member_value eq old id) table
        (λ next. IsTrackedUpdate eq cmp part old id next (Granted new.progress.granted) new) old result new
    acknowledged (Some (Ok u)) a = (
      a.0,
      a.1,
      a.2,
      a.3,
      record {
        membership = kept;
        values = a.4.values;
        answered = record {
          refused = λ r i. record { membership = kept i; progress = a.4.answered.refused r i };
          done = a.4.answered.done;
          tells = a.4.answered.tells;
        };
      },
    )
    acknowledged (Some (Err e)) a = (a.0, a.1, a.2, λ i. record { membership = kept i; progress = a.3 i })
    acknowledged None a = (a.0, λ i. record { membership = kept i; progress = a.1 i })
