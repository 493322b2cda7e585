use Rattle.std.proofs.Common.{◌≡◌, ap, false, sym, true≢false, ◌∙◌}
use Rattle.std.proofs.lemmas.Result.{MatchResult-at_ok}
use Rattle.std.specs.Option.{option_copied}
use Rattle.std.specs.Result.{is_ok}
use Rattle.raft_progress.specs.progress.Steps.{falls, stays}
use Rattle.raft_progress.specs.progress.VecProgress.{view}
use Rattle.raft_progress.proofs.lemmas.progress.StepLemmas.{increase_known}
use Rattle.raft_progress.proofs.progress.vec_progress.VecProgress.increase.Goals as goal
use Rattle.raft_progress.proofs.progress.vec_progress.VecProgress.increase.Goals.{else-not-is_not_greater-via-then-not-is_not_greater+else-would_fall, else-not-is_not_greater-via-else-not-is_not_greater}

pub returns-in-Ok-clause-step : goal.returns-in-Ok-clause-step
returns-in-Ok-clause-step g c =
    let h = c.increase_to.follows.holds-at-none in
    let read = c.try_get-current.ensures in
    let up : stays g.V.PartialOrd.partial_cmp (option_copied c.try_get-current.result) c.args.value ≡ false
    → falls g.P.Ord.cmp g.V.ProgressPart.part_of (option_copied c.try_get-current.result) c.args.value ≡ false =
    elim c.else-not-is_not_greater.branch [
      | else-not-is_not_greater-via-then-not-is_not_greater+else-would_fall b ↦ λ s. sym b.would_fall.ensures ∙ b.if-would_fall.false
      | else-not-is_not_greater-via-else-not-is_not_greater b ↦
          λ s. absurd (true≢false (sym b.if-not-is_not_greater.false ∙ c.is_not_greater.ensures ∙ s))
    ] in
    increase_known g.met.ID.Eq.laws g.P.Ord.cmp g.V.ProgressPart.part_of g.QS.QuorumSet.has_quorum (view c.args.self.now)
    (view c.increase_to.follows.lender-at-none) c.args.id.now c.args.value c.in-Ok.granted.now
    (MatchResult-at_ok _ _ c.in-Ok.granted c.in-Ok.is h.granted) h.ordered g.V.PartialOrd.partial_cmp h.updated
    (h.known.0 (ap is_ok c.in-Ok.is))
    (λ s. ap (λ o. falls g.P.Ord.cmp g.V.ProgressPart.part_of o c.args.value) (sym read)
    ∙ up (ap (λ o. stays g.V.PartialOrd.partial_cmp o c.args.value) read ∙ s))
