use Rattle.std.proofs.Common.{◌≡◌, Bool, Result, Ok, Err, Some, false, refl, sym, subst, ◌∙◌}
use Rattle.std.specs.Prelude.{OnOk}
use Rattle.std.specs.Result.{is_err}
use Rattle.std.specs.declared.cmp.Ordering.{Ordering}
use Rattle.raft_base.specs.LogIdLawful.{optional-log_id_cmp-total}
use Rattle.raft_progress.specs.progress.ProgressState.{Writes}
use Rattle.raft_progress.specs.progress.ProgressView.{ProgressView, state}
use Rattle.raft_progress.specs.progress.Updated.{IsUpdated}
use Rattle.raft_progress.specs.progress.VecProgress.{view}
use Rattle.raft_progress.proofs.lemmas.OrderLemmas.{AtMost-refl}
use Rattle.tests_progress.proofs.entry.take_ack.Goals as goal

-- what holds on Ok holds of what is no Err
not_err : {A B : Type 0} (P : Type 0) (r : Result A B) → is_err r ≡ false → OnOk r P → P
not_err P (Ok x) h m = m
not_err P (Err x) h m = cc

-- an update of a known id to a value writes that value
writes : {ID V P QS : Type 0} (eq : ID → ID → Bool) (cmp : P → P → Ordering) (part : V → P) (old new : ProgressView ID V P QS) (id : ID)
    (v end : V) → IsUpdated eq cmp part (λ before after. after ≡ end) old id new → (state eq old).value id ≡ Some v
    → Writes eq (state eq old) id end (state eq new)
writes eq cmp part old new id v end up known = let k = up.known v known in subst (λ w. Writes eq (state eq old) id w (state eq new)) k.1 k.2

pub update-requires-clause-monotone : goal.update-requires-clause-monotone
update-requires-clause-monotone g c = λ old known.
    let is : Some c.in-Some.found ≡ Some old = sym c.in-Some.is ∙ c.copied.ensures ∙ c.try_get.ensures ∙ known in
    let same : c.in-Some.found ≡ old = cc in
    rw same at c.update_matching.ensures.monotone

pub returns-then-is_err-clause-monotone : goal.returns-then-is_err-clause-monotone
returns-then-is_err-clause-monotone g c = AtMost-refl (optional-log_id_cmp-total g.met.C.Ord.total) (view c.args.followers.now).granted

pub returns-else-is_err-clause-matched : goal.returns-else-is_err-clause-matched
returns-else-is_err-clause-matched g c = λ _.
    let known : (state g.ID.PartialEq.eq (view c.args.followers.now)).value c.args.id.now ≡ Some c.in-Some.found =
    sym c.try_get.ensures ∙ sym c.copied.ensures ∙ c.in-Some.is in
    let written = writes g.ID.PartialEq.eq _ _ (view c.args.followers.now) (view c.update.follows.lender-at-none) c.args.id.now
    c.in-Some.found c.update_matching.new.self c.update.follows.holds-at-none.updated known in
    let ok = sym c.is_err.ensures.value ∙ c.if-is_err.false in (
      c.update_matching.new.self,
      written.value c.args.id.now ∙ rw (g.met.ID.Eq.laws.refl c.args.id.now) refl,
      not_err _ c.update_matching.result ok c.update_matching.ensures.matched,
      not_err _ c.update_matching.result ok c.update_matching.ensures.valid,
    )
