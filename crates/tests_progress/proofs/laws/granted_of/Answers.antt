use Rattle.std.proofs.Common.{subst, sym}
use Rattle.raft_progress.specs.progress.ProgressView.{state}
use Rattle.raft_progress.specs.progress.Threshold.{QuorumsHavePart}
use Rattle.raft_progress.specs.progress.VecProgress.{view}
use Rattle.tests_progress.proofs.laws.granted_of.Goals as goal

pub returns : goal.returns
returns g c =
    let p = view c.args.progress.now in
    subst (QuorumsHavePart g.P.Ord.cmp g.V.ProgressPart.part_of g.QS.QuorumSet.has_quorum (state g.ID.PartialEq.eq p))
    (sym c.granted.ensures)
    (c.meeting_quorums_know_granted.ensures p c.requires.ordered c.requires.share)
