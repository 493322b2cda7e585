use Rattle.std.proofs.Common.{◌≡◌, Bool, true, false, not, Option, Some, None, refl}
use Rattle.std.specs.Option.{is_some}
use Rattle.raft_progress.specs.progress.ProgressView.{state}
use Rattle.raft_progress.specs.progress.VecProgress.{view}
use Rattle.raft_progress.proofs.lemmas.progress.upgrade.BelowLemmas.{below_refuses}
use Rattle.raft_progress.proofs.progress.vec_progress.VecProgressProgress.can_upgrade.Goals as goal

none_from_test : {X : Type 0} (o : Option X) (b : Bool) → is_some o ≡ not b → b ≡ true → o ≡ None
none_from_test None b h e = refl
none_from_test (Some x) true h e = cc
none_from_test (Some x) false h e = cc

test_from_not_some : {X : Type 0} (o : Option X) (b : Bool) → is_some o ≡ not b → ((x : X) → o ≡ Some x → ⊥) → b ≡ true
test_from_not_some None true h f = refl
test_from_not_some None false h f = cc
test_from_not_some (Some x) b h f = absurd (f x refl)

pub returns : goal.returns
returns g c = (
  (λ e. c.in_ok-least.ensures.none (none_from_test _ _ c.is_none.ensures e)),
  (λ can. test_from_not_some _ _ c.is_none.ensures
      (λ id e. below_refuses g.ID.PartialEq.eq g.ID.Ord.cmp g.met.P.Ord.total g.V.ProgressPart.part_of
      (g.QS.QuorumSet.is_voter c.args.quorum_set.now) c.args.learners.now c.args.default.now
      ((state g.ID.PartialEq.eq (view c.args.self.now)).value) id (c.in_ok-least.ensures.some id e) can)),
)
