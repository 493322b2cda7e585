use Rattle.std.specs.Coded.{Coded-set, coded_list}
use Rattle.std.proofs.Common.{refl}
use Rattle.raft_progress.specs.progress.ViewSteps.{IsIncreasedTo}
use Rattle.raft_progress.specs.tracked.Tracked.{tracked_view}
use Rattle.raft_progress.specs.progress.VecProgress.{view}
use Rattle.raft_progress.proofs.lemmas.tracked.ReadyLemmas.{answered_tracked, ready_increased, ready_of}
use Rattle.raft_progress.proofs.tracked.Tracked.answer.Goals as goal

pub increase-requires : goal.increase-requires
increase-requires g c = (ready_of g.met.NID.Eq.laws g.NID.Ord.cmp g.met.P.Ord.total g.V.ProgressPart.part_of
    (Coded-set (coded_list (coded_list g.row.NID.coded))) (tracked_view c.args.self.now) c.args.self.now.ready).ordered

pub invariant_of-self : goal.invariant_of-self
invariant_of-self g c = record {
  ready = ∣
      ready_increased g.met.NID.Eq.laws g.NID.Ord.cmp g.met.P.Ord.total g.V.ProgressPart.part_of
      (Coded-set (coded_list (coded_list g.row.NID.coded))) (tracked_view c.args.self.now)
      (record { membership = c.args.self.now.membership; progress = view c.increase.new.self }) refl c.args.self.now.ready
      c.increase.ensures.ordered c.in-IncreaseTo.id c.in-IncreaseTo.value c.increase.result g.V.PartialOrd.partial_cmp
      c.increase.ensures.step.values
      ∣₁;
  sides_fit = c.args.self.now.sides_fit;
}

pub returns-in-Update : goal.returns-in-Update
returns-in-Update g c =
    rw c.in-Update.is
    record {
      values = (c.update.ensures.step.membership, c.update.ensures.step.values);
      answered = record {
        refused = c.update.ensures.step.answered.refused;
        done = λ r. (c.update.ensures.step.membership, c.update.ensures.step.answered.done r);
        tells = c.update.ensures.step.answered.tells;
      };
      ready = c.update.ensures.ready;
    }

pub returns-in-IncreaseTo : goal.returns-in-IncreaseTo
returns-in-IncreaseTo g c =
    rw c.in-IncreaseTo.is
    record {
      values = (refl, c.increase.ensures.step.values);
      answered = answered_tracked (IsIncreasedTo g.NID.PartialEq.eq g.P.Ord.cmp g.V.ProgressPart.part_of g.V.PartialOrd.partial_cmp
          (view c.args.self.now.progress) c.in-IncreaseTo.id c.in-IncreaseTo.value) (tracked_view c.args.self.now) c.increase.result
          (record { membership = c.args.self.now.membership; progress = view c.increase.new.self }) refl
          c.increase.ensures.step.answered;
      ready = ready_increased g.met.NID.Eq.laws g.NID.Ord.cmp g.met.P.Ord.total g.V.ProgressPart.part_of
          (Coded-set (coded_list (coded_list g.row.NID.coded))) (tracked_view c.args.self.now)
          (record { membership = c.args.self.now.membership; progress = view c.increase.new.self }) refl c.args.self.now.ready
          c.increase.ensures.ordered c.in-IncreaseTo.id c.in-IncreaseTo.value c.increase.result g.V.PartialOrd.partial_cmp
          c.increase.ensures.step.values;
    }

pub returns-in-Change : goal.returns-in-Change
returns-in-Change g c =
    rw c.in-Change.is
    record {
      values = c.change_members.ensures.values;
      answered = c.change_members.ensures.answered;
      ready = ready_of g.met.NID.Eq.laws g.NID.Ord.cmp g.met.P.Ord.total g.V.ProgressPart.part_of
          (Coded-set (coded_list (coded_list g.row.NID.coded)))
          (tracked_view c.change_members.new.self) c.change_members.new.self.ready;
    }
