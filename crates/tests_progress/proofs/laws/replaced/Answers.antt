use Rattle.std.proofs.Common.{ap, subst, sym, ◌∙◌}
use Rattle.std.specs.Option.{option_copied_mut}
use Rattle.raft_progress.specs.progress.InOrder.{IsInOrder}
use Rattle.raft_progress.specs.progress.Kept.{with_value}
use Rattle.raft_progress.specs.progress.VecProgress.{view}
use Rattle.tests_progress.proofs.laws.replaced.Goals as goal

pub returns-in-Some : goal.returns-in-Some
returns-in-Some g c =
    let old = view c.args.progress.now in
    let new = with_value g.ID.PartialEq.eq old c.args.id.now c.args.value in
    let value = sym c.get_mut.ensures.value ∙ ap option_copied_mut c.in-Some.is in
    let kept = c.kept_parts_keep_order.ensures.same_part old c.args.id.now c.in-Some.current.now c.args.value value
    (c.requires.same_part c.in-Some.current.now value) in
    subst (IsInOrder g.ID.PartialEq.eq g.P.Ord.cmp g.V.ProgressPart.part_of g.QS.QuorumSet.has_quorum)
    (sym (rw c.in-Some.is at (c.get_mut.follows.holds c.args.value)))
    (c.kept_parts_keep_order.ensures.ordered old new kept c.requires.ordered)
