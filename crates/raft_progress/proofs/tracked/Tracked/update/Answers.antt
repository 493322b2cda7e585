use Rattle.std.specs.Coded.{Coded-set, coded_list}
use Rattle.std.specs.Option.{option_copied}
use Rattle.std.proofs.Common.{ap, refl, sym, ◌∙◌}
use Rattle.raft_progress.specs.progress.VecProgress.{view}
use Rattle.raft_progress.specs.tracked.Tracked.{tracked_view}
use Rattle.raft_progress.proofs.lemmas.progress.SideLemmas.{sides_ready}
use Rattle.raft_progress.proofs.lemmas.tracked.HeadlineLemmas.{each_quorum_knows}
use Rattle.raft_progress.proofs.lemmas.tracked.ReadyLemmas.{has_voters_of_set, ready_of, ready_written}
use Rattle.raft_progress.proofs.tracked.Tracked.update.Goals as goal

pub write-requires-clause-ordered : goal.write-requires-clause-ordered
write-requires-clause-ordered g c = (ready_of g.met.NID.Eq.laws g.NID.Ord.cmp g.met.P.Ord.total g.V.ProgressPart.part_of
    (Coded-set (coded_list (coded_list g.row.NID.coded))) (tracked_view c.args.self.now) c.args.self.now.ready).ordered

pub write-requires-clause-voters : goal.write-requires-clause-voters
write-requires-clause-voters g c = λ counts. has_voters_of_set (tracked_view c.args.self.now)
    (ready_of g.met.NID.Eq.laws g.NID.Ord.cmp g.met.P.Ord.total g.V.ProgressPart.part_of
    (Coded-set (coded_list (coded_list g.row.NID.coded))) (tracked_view c.args.self.now) c.args.self.now.ready)

pub write-requires-clause-sides : goal.write-requires-clause-sides
write-requires-clause-sides g c = λ s is fresh.
    let t = c.args.self.now in
    sides_ready g.met.NID.Eq.laws g.NID.Ord.cmp g.P.Ord.cmp g.V.ProgressPart.part_of (tracked_view t)
    (ready_of g.met.NID.Eq.laws g.NID.Ord.cmp g.met.P.Ord.total g.V.ProgressPart.part_of
    (Coded-set (coded_list (coded_list g.row.NID.coded))) (tracked_view t) t.ready)
    t.progress.positions.sorted.items t.progress.positions.ascending (t.progress.agree fresh) s.now
    (t.sides_fit s.now (sym c.as_ref.ensures.value ∙ ap option_copied is))

pub returns-clause-ready : goal.returns-clause-ready
returns-clause-ready g c = ready_written g.met.NID.Eq.laws g.NID.Ord.cmp g.met.P.Ord.total g.V.ProgressPart.part_of
    (Coded-set (coded_list (coded_list g.row.NID.coded))) (tracked_view c.args.self.now)
    (record { membership = c.args.self.now.membership; progress = view c.write.new.self }) refl c.args.self.now.ready
    c.write.ensures.ordered c.args.id.now c.args.value c.write.result c.write.ensures.step.values

pub invariant_of-self : goal.invariant_of-self
invariant_of-self g c = record {
  ready = ∣
      ready_written g.met.NID.Eq.laws g.NID.Ord.cmp g.met.P.Ord.total g.V.ProgressPart.part_of
      (Coded-set (coded_list (coded_list g.row.NID.coded))) (tracked_view c.args.self.now)
      (record { membership = c.args.self.now.membership; progress = view c.write.new.self }) refl c.args.self.now.ready
      c.write.ensures.ordered c.args.id.now c.args.value c.write.result c.write.ensures.step.values
      ∣₁;
  sides_fit = c.args.self.now.sides_fit;
}

pub returns-clause-quorums : goal.returns-clause-quorums
returns-clause-quorums g c = λ some. (each_quorum_knows g.met.NID.Eq.laws g.NID.Ord.cmp g.met.P.Ord.total g.V.ProgressPart.part_of
    (record { membership = c.args.self.now.membership; progress = view c.write.new.self }) (returns-clause-ready g c) some).0

pub returns-clause-changed_quorums : goal.returns-clause-changed_quorums
returns-clause-changed_quorums g c = λ some.
    (each_quorum_knows g.met.NID.Eq.laws g.NID.Ord.cmp g.met.P.Ord.total g.V.ProgressPart.part_of
    (record { membership = c.args.self.now.membership; progress = view c.write.new.self }) (returns-clause-ready g c) some).1
