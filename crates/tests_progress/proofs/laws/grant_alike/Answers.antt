use Rattle.std.proofs.Common.{◌≡◌, ap, subst, ◌∙◌}
use Rattle.std.specs.Ordering.{is_eq}
use Rattle.std.specs.declared.cmp.Ordering.TheVariants.{Equal}
use Rattle.raft_progress.specs.progress.CountedValue.{IsCounted}
use Rattle.raft_progress.specs.progress.ProgressState.{ProgressState}
use Rattle.raft_progress.specs.progress.ProgressView.{state}
use Rattle.raft_progress.specs.progress.VecProgress.{view}
use Rattle.raft_progress.proofs.lemmas.progress.StepLemmas.{same_is_equal}
use Rattle.tests_progress.proofs.laws.grant_alike.Goals as goal

pub returns : goal.returns
returns g c =
    let one = view c.args.one.now in
    let other = view c.args.other.now in
    let mine = state g.ID.PartialEq.eq one in
    let counted : IsCounted g.P.Ord.cmp g.V.ProgressPart.part_of g.QS.QuorumSet.has_quorum mine other.granted =
    subst (λ (s : ProgressState g.row.ID.Denot g.row.V.Denot g.row.P.Denot g.row.QS.Denot). IsCounted g.P.Ord.cmp
    g.V.ProgressPart.part_of g.QS.QuorumSet.has_quorum s other.granted)
    (same_is_equal mine (state g.ID.PartialEq.eq other) c.requires.same) c.requires.other.counted in
    let tie : g.P.Ord.cmp one.granted other.granted ≡ Equal =
    (c.counted_values_tie.ensures mine one.granted other.granted c.requires.one.counted).0 counted in
    c.is_eq.ensures ∙ ap is_eq (c.cmp.ensures ∙ (λ i. g.P.Ord.cmp (c.granted.ensures i) (c.granted-2.ensures i)) ∙ tie)
