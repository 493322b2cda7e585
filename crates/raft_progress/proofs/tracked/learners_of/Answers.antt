use Rattle.std.proofs.Common.{◌≡◌, subst, sym, ap, ◌∙◌}
use Rattle.std.specs.List.{IsDistinct}
use Rattle.std.specs.Set.{is_member}
use Rattle.raft_members.specs.membership.Learners.{learners_ahead, learners_of}
use Rattle.raft_members.proofs.lemmas.membership.AscendingLemmas.{none_ahead, push_ahead}
use Rattle.raft_progress.proofs.lemmas.progress.NewProgressLemmas.{IsDistinct-from_cmp}
use Rattle.raft_progress.proofs.tracked.learners_of.Goals as goal

pub returns-clause-same : goal.returns-clause-same
returns-clause-same g c = none_ahead (learners_of g.NID.PartialEq.eq c.args.membership.now) c.loop-id.ids.items
    (learners_ahead g.NID.PartialEq.eq c.loop-id.id-iterator) c.loop-id.invariant c.in-None.ensures.steps.0

pub returns-clause-learners : goal.returns-clause-learners
returns-clause-learners g c =
    let same : c.loop-id.ids.items ≡ learners_ahead g.NID.PartialEq.eq c.learner_ids-id-items.result =
    returns-clause-same g c ∙ sym c.learner_ids-id-items.ensures.rest in
    record {
      distinct = subst (IsDistinct g.NID.PartialEq.eq) (sym same)
          (IsDistinct-from_cmp g.NID.Ord.cmp g.met.NID.Ord.matches_eq _ c.learner_ids-id-items.ensures.ascending);
      are_known = λ id. ap (λ ids. is_member g.NID.PartialEq.eq ids id) same ∙ c.learner_ids-id-items.ensures.learners id;
    }

pub loop-id-init : goal.loop-id-init
loop-id-init g c = rw c.new-ids.ensures.items
    (sym (ap (learners_ahead g.NID.PartialEq.eq) c.into_iter-id-iterator.ensures.into_iter_gives ∙ c.learner_ids-id-items.ensures.rest))

pub loop-id-preserved : goal.loop-id-preserved
loop-id-preserved g c =
    rw c.in_ok-push.ensures.items (push_ahead (learners_of g.NID.PartialEq.eq c.args.membership.now) c.loop-id.ids.items
    (learners_ahead g.NID.PartialEq.eq c.loop-id.id-iterator) (learners_ahead g.NID.PartialEq.eq c.next.new.self) c.in-Some.id
    c.loop-id.invariant c.in-Some.ensures.steps)
