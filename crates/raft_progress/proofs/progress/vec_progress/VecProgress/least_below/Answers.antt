use Rattle.std.proofs.Common.{sym, ◌∙◌, subst, ◌≡◌, ◌++◌, [], true, List, Option, Some, None}
use Rattle.std.specs.List.{list_all}
use Rattle.std.specs.Map.{lookup}
use Rattle.raft_progress.specs.Inner.Conditions.{IsLeastPassing, is_value_below}
use Rattle.raft_progress.specs.Inner.Recount.{at_least}
use Rattle.raft_progress.specs.progress.CountedValue.{AtMost}
use Rattle.raft_progress.proofs.lemmas.progress.upgrade.BelowLemmas.{least_is_below, none_is_below, not_below}
use Rattle.raft_progress.proofs.progress.vec_progress.VecProgress.least_below.Goals as goal

pub returns-then-is_at_least-clause-none : goal.returns-then-is_at_least-clause-none
returns-then-is_at_least-clause-none g c = λ e x v h i.
    let entries = c.args.self.now.entries.items in
    let part = g.V.ProgressPart.part_of in
    subst (λ (p : g.row.P.Denot). AtMost g.P.Ord.cmp p (part v)) c.part-part.ensures
    (not_below g.ID.PartialEq.eq g.P.Ord.cmp part c.part-part.result entries
    (subst (λ (es : List (g.row.ID.Denot × g.row.V.Denot)). list_all (at_least g.P.Ord.cmp part c.part-part.result) es ≡ true)
    c.deref.ensures.value (sym c.is_at_least.ensures ∙ c.if-is_at_least.true)) x v h)

pub returns-clause-none : goal.returns-clause-none
returns-clause-none g c = λ e.
    let part = g.V.ProgressPart.part_of in
    let entries = c.args.self.now.entries.items in
    let learners = c.args.learners.now in
    none_is_below g.met.ID.Eq.laws g.ID.Ord.cmp g.met.ID.Ord.total g.met.ID.Ord.matches_eq g.met.P.Ord.total part
    (g.QS.QuorumSet.is_voter c.args.quorum_set.now) c.in_ok-voters.voters.items learners c.in_ok-voters.ensures.voters
    c.args.default.now entries
    (subst (λ (vs : List g.row.ID.Denot). IsLeastPassing g.ID.Ord.cmp
    (λ x. is_value_below g.P.Ord.cmp part (part c.args.default.now) (lookup (g.ID.PartialEq.eq x) entries)) (vs ++ learners) None)
    c.deref-2.ensures.value
    (subst (λ (p : g.row.P.Denot). IsLeastPassing g.ID.Ord.cmp
    (λ x. is_value_below g.P.Ord.cmp part p (lookup (g.ID.PartialEq.eq x) entries)) (c.deref-2.result.now ++ learners) None)
    c.part-part.ensures
    (subst (λ (o : Option g.row.ID.Denot). IsLeastPassing g.ID.Ord.cmp
    (λ x. is_value_below g.P.Ord.cmp part c.part-part.result (lookup (g.ID.PartialEq.eq x) entries)) (c.deref-2.result.now ++ learners) o) e
    (c.least_of.ensures c.deref-2.result.now (c.least_of-least.ensures [] tt)))))

pub returns-clause-some : goal.returns-clause-some
returns-clause-some g c = λ id e.
    let part = g.V.ProgressPart.part_of in
    let entries = c.args.self.now.entries.items in
    let learners = c.args.learners.now in
    least_is_below g.met.ID.Eq.laws g.ID.Ord.cmp g.met.ID.Ord.total g.met.ID.Ord.matches_eq g.met.P.Ord.total part
    (g.QS.QuorumSet.is_voter c.args.quorum_set.now) c.in_ok-voters.voters.items learners c.in_ok-voters.ensures.voters
    c.args.default.now entries id
    (subst (λ (vs : List g.row.ID.Denot). IsLeastPassing g.ID.Ord.cmp
    (λ x. is_value_below g.P.Ord.cmp part (part c.args.default.now) (lookup (g.ID.PartialEq.eq x) entries)) (vs ++ learners) (Some id))
    c.deref-2.ensures.value
    (subst (λ (p : g.row.P.Denot). IsLeastPassing g.ID.Ord.cmp
    (λ x. is_value_below g.P.Ord.cmp part p (lookup (g.ID.PartialEq.eq x) entries)) (c.deref-2.result.now ++ learners) (Some id))
    c.part-part.ensures
    (subst (λ (o : Option g.row.ID.Denot). IsLeastPassing g.ID.Ord.cmp
    (λ x. is_value_below g.P.Ord.cmp part c.part-part.result (lookup (g.ID.PartialEq.eq x) entries)) (c.deref-2.result.now ++ learners) o) e
    (c.least_of.ensures c.deref-2.result.now (c.least_of-least.ensures [] tt)))))
