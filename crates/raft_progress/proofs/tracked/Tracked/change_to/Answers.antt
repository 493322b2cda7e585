use Rattle.std.specs.Coded.{Coded-set, coded_list}
use Rattle.raft_progress.specs.tracked.Tracked.{tracked_view}
use Rattle.raft_progress.proofs.lemmas.tracked.HeadlineLemmas.{each_quorum_knows}
use Rattle.raft_progress.proofs.lemmas.tracked.ReadyLemmas.{ready_of}
use Rattle.raft_progress.proofs.lemmas.tracked.ChangeLemmas.{change_or_memory}
use Rattle.raft_progress.proofs.tracked.Tracked.change_to.Goals as goal

pub returns-clause-step : goal.returns-clause-step
returns-clause-step g c =
    rw c.unwrap_or.ensures
    (change_or_memory g.NID.PartialEq.eq g.NID.Ord.cmp g.P.Ord.cmp g.V.ProgressPart.part_of g.V.Clone.is_clone
    (tracked_view c.args.self.now)
    (tracked_view c.upgrade_to.new.self) c.args.membership c.args.default c.upgrade_to.result c.upgrade_to.ensures.step
    c.upgrade_to.ensures.err)

pub returns-clause-ready : goal.returns-clause-ready
returns-clause-ready g c = ready_of g.met.NID.Eq.laws g.NID.Ord.cmp g.met.P.Ord.total g.V.ProgressPart.part_of
    (Coded-set (coded_list (coded_list g.row.NID.coded))) (tracked_view c.upgrade_to.new.self) c.upgrade_to.new.self.ready

pub returns-clause-granted : goal.returns-clause-granted
returns-clause-granted g c = (returns-clause-ready g c).ordered.counted

pub returns-clause-quorums : goal.returns-clause-quorums
returns-clause-quorums g c = λ some. (each_quorum_knows g.met.NID.Eq.laws g.NID.Ord.cmp g.met.P.Ord.total g.V.ProgressPart.part_of
    (tracked_view c.upgrade_to.new.self) (returns-clause-ready g c) some).0

pub returns-clause-changed_quorums : goal.returns-clause-changed_quorums
returns-clause-changed_quorums g c = λ some.
    (each_quorum_knows g.met.NID.Eq.laws g.NID.Ord.cmp g.met.P.Ord.total g.V.ProgressPart.part_of (tracked_view c.upgrade_to.new.self)
    (returns-clause-ready g c) some).1
