use Rattle.raft_progress.specs.tracked.Tracked.{tracked_view}
use Rattle.raft_progress.proofs.lemmas.tracked.ChangeLemmas.{change_answered}
use Rattle.raft_progress.proofs.tracked.Tracked.change_members.Goals as goal

pub returns : goal.returns
returns g c =
    change_answered g.NID.PartialEq.eq g.NID.Ord.cmp g.N.PartialEq.eq g.P.Ord.cmp g.V.ProgressPart.part_of g.V.Clone.is_clone
    (tracked_view c.args.self.now) (tracked_view c.answer_change.new.self) c.args.change c.args.retain c.args.default
    c.change-made.result c.answer_change.result c.change-made.ensures.valid c.change-made.ensures.changed c.change-made.ensures.refused
    c.answer_change.ensures.refused c.answer_change.ensures.changed
