use Rattle.std.proofs.Common.{List, subst, sym, ◌∙◌}
use Rattle.raft_progress.specs.progress.ProgressView.{state}
use Rattle.raft_progress.specs.progress.Upgrade.{IsLeastBelow}
use Rattle.raft_progress.specs.progress.VecProgress.{view}
use Rattle.raft_progress.specs.tracked.TrackedState.{is_voter}
use Rattle.raft_progress.proofs.tracked.Tracked.upgrade_to.Goals as goal

pub upgrade_unless_below-requires-clause-some : goal.upgrade_unless_below-requires-clause-some
upgrade_unless_below-requires-clause-some g c κs within = λ id is.
    subst (λ (ls : List g.row.NID.Denot). IsLeastBelow g.NID.PartialEq.eq g.NID.Ord.cmp g.P.Ord.cmp g.V.ProgressPart.part_of
    (is_voter g.NID.PartialEq.eq c.in_ok-configs.configs) ls c.args.default
    ((state g.NID.PartialEq.eq (view c.args.self.now.progress)).value) id) (c.deref.ensures.value ∙ sym c.deref-2.ensures.value)
    (c.in_ok-below.ensures.some id is)
