use Rattle.std.proofs.Common.{arith, sym, ap, ◌∙◌, subst, ◌≡◌, ◌<◌, ◌≤◌, ◌+◌, ◌++◌, ◌∷◌, [], get_or, take, length, List, Some, None}
use Rattle.std.specs.Map.{lookup}
use Rattle.std.proofs.lemmas.List.{take_all, take_more}
use Rattle.raft_progress.specs.progress.InOrder.{IsInOrder}
use Rattle.raft_progress.specs.progress.ProgressView.{ProgressView}
use Rattle.raft_progress.specs.progress.UpgradeFold.{TakesOverEach}
use Rattle.raft_progress.specs.progress.VecProgress.{view}
use Rattle.raft_progress.proofs.lemmas.progress.upgrade.FoldLemmas.{each_more, updated_weaker}
use Rattle.raft_progress.proofs.lemmas.progress.upgrade.TakeOverLemmas.{NotIn, each_keeps, sides_kept, voters_kept}
use Rattle.raft_progress.proofs.lemmas.progress.upgrade.UpgradeLemmas.{not_seen, own_value}
use Rattle.raft_progress.proofs.progress.vec_progress.VecProgress.take_over.Goals as goal

pub loop-entry-init : goal.loop-entry-init
loop-entry-init g c = record {
  ordered = subst (λ (p : ProgressView g.row.ID.Denot g.row.V.Denot g.row.P.Denot g.row.QS.Denot). IsInOrder g.ID.PartialEq.eq
      g.P.Ord.cmp g.V.ProgressPart.part_of g.QS.QuorumSet.has_quorum p) (sym c.copy_counts.ensures.same) c.requires.ordered;
  each = c.copy_counts.ensures.same;
}

pub inherit-requires-clause-monotone : goal.inherit-requires-clause-monotone
inherit-requires-clause-monotone g c = λ v h.
    let es = c.args.from.now.entries.items in
    let is : c.entry-item.result ≡ get_or es c.loop-entry.entry-index c.entry-item.result =
    rw (← c.deref-entry-items.ensures.value) c.entry-item.is in
    let l : c.loop-entry.entry-index < length es = rw (← c.deref-entry-items.ensures.value) (omega arith) in
    let fresh : lookup (g.ID.PartialEq.eq c.entry-item.result.0) (take c.loop-entry.entry-index es) ≡ None =
    ap (λ (e : g.row.ID.Denot × g.row.V.Denot). lookup (g.ID.PartialEq.eq e.0) (take c.loop-entry.entry-index es)) is
    ∙ not_seen g.met.ID.Eq.laws es c.loop-entry.entry-index c.entry-item.result l c.requires.given_in_order.distinct in
    let own : lookup (g.ID.PartialEq.eq c.entry-item.result.0) es ≡ Some c.entry-item.result.1 =
    subst (λ (e : g.row.ID.Denot × g.row.V.Denot). lookup (g.ID.PartialEq.eq e.0) es ≡ Some e.1) (sym is)
    (own_value g.met.ID.Eq.laws es c.loop-entry.entry-index c.entry-item.result l c.requires.given_in_order.distinct) in
    let keeps = each_keeps g.met.ID.Eq.laws g.P.Ord.cmp g.V.ProgressPart.part_of g.ID.Ord.cmp g.V.Clone.is_clone
    g.QS.QuorumSet.has_quorum g.QS.QuorumSet.is_voter (take c.loop-entry.entry-index es)
    (record (view c.args.self.now) { stat = c.args.from.now.stat }) (view c.loop-entry.self) c.loop-entry.invariant.each in
    rw (c.requires.clones_have_the_part c.entry-item.result.1 c.in_ok-value.value c.in_ok-value.ensures.cases)
    (c.requires.none_falls c.entry-item.result.0 c.entry-item.result.1 v own
    (sym (keeps.others c.entry-item.result.0 fresh) ∙ h))

pub inherit-requires-clause-voters : goal.inherit-requires-clause-voters
inherit-requires-clause-voters g c =
    let first = record (view c.args.self.now) { stat = c.args.from.now.stat } in
    let es = take c.loop-entry.entry-index c.args.from.now.entries.items in
    let keeps = each_keeps g.met.ID.Eq.laws g.P.Ord.cmp g.V.ProgressPart.part_of g.ID.Ord.cmp g.V.Clone.is_clone
    g.QS.QuorumSet.has_quorum g.QS.QuorumSet.is_voter es first (view c.loop-entry.self) c.loop-entry.invariant.each in
    voters_kept g.met.ID.Eq.laws g.QS.QuorumSet.is_voter (NotIn g.ID.PartialEq.eq es) first (view c.loop-entry.self)
    keeps c.requires.voters

pub inherit-requires-clause-sides : goal.inherit-requires-clause-sides
inherit-requires-clause-sides g c = λ s is.
    let first = record (view c.args.self.now) { stat = c.args.from.now.stat } in
    let es = take c.loop-entry.entry-index c.args.from.now.entries.items in
    let keeps = each_keeps g.met.ID.Eq.laws g.P.Ord.cmp g.V.ProgressPart.part_of g.ID.Ord.cmp g.V.Clone.is_clone
    g.QS.QuorumSet.has_quorum g.QS.QuorumSet.is_voter es first (view c.loop-entry.self) c.loop-entry.invariant.each in
    sides_kept g.met.ID.Eq.laws g.ID.Ord.cmp g.QS.QuorumSet.has_quorum (NotIn g.ID.PartialEq.eq es) first
    (view c.loop-entry.self) keeps s.now (c.requires.sides s is)

pub loop-entry-preserved : goal.loop-entry-preserved
loop-entry-preserved g c =
    let es = c.args.from.now.entries.items in
    let is : c.entry-item.result ≡ get_or es c.loop-entry.entry-index c.entry-item.result =
    rw (← c.deref-entry-items.ensures.value) c.entry-item.is in
    let l : c.loop-entry.entry-index < length es = rw (← c.deref-entry-items.ensures.value) (omega arith) in
    let more : take (c.loop-entry.entry-index + 1) es ≡ take c.loop-entry.entry-index es ++ c.entry-item.result ∷ [] =
    take_more es c.loop-entry.entry-index c.entry-item.result l
    ∙ ap (λ e. take c.loop-entry.entry-index es ++ e ∷ []) (sym is) in
    record {
      ordered = c.inherit.ensures.ordered;
      each =
          subst (λ (ds : List (g.row.ID.Denot × g.row.V.Denot)). TakesOverEach g.ID.PartialEq.eq g.ID.Ord.cmp g.P.Ord.cmp
          g.V.ProgressPart.part_of g.V.Clone.is_clone g.QS.QuorumSet.has_quorum g.QS.QuorumSet.is_voter ds
          (record (view c.args.self.now) { stat = c.args.from.now.stat }) (view c.inherit.new.self)) (sym more)
          (each_more g.ID.PartialEq.eq g.ID.Ord.cmp g.P.Ord.cmp g.V.ProgressPart.part_of g.V.Clone.is_clone g.QS.QuorumSet.has_quorum
          g.QS.QuorumSet.is_voter (take c.loop-entry.entry-index es) (record (view c.args.self.now) { stat = c.args.from.now.stat })
          (view c.loop-entry.self) (view c.inherit.new.self) c.entry-item.result c.loop-entry.invariant.each
          (updated_weaker g.ID.PartialEq.eq g.P.Ord.cmp g.V.ProgressPart.part_of (λ v w. w ≡ c.in_ok-value.value)
          (λ v w. g.V.Clone.is_clone c.entry-item.result.1 w)
          (λ v w e. subst (g.V.Clone.is_clone c.entry-item.result.1) (sym e) c.in_ok-value.ensures.cases) (view c.loop-entry.self)
          c.entry-item.result.0 (view c.inherit.new.self) c.inherit.ensures.updated)
          c.inherit.ensures.ordered);
    }

pub returns-clause-takes_over : goal.returns-clause-takes_over
returns-clause-takes_over g c =
    let es = c.args.from.now.entries.items in
    let at_end : length es ≤ c.loop-entry.entry-index = rw (← c.deref-entry-items.ensures.value) (omega arith) in
    subst (λ (ds : List (g.row.ID.Denot × g.row.V.Denot)). TakesOverEach g.ID.PartialEq.eq g.ID.Ord.cmp g.P.Ord.cmp
    g.V.ProgressPart.part_of g.V.Clone.is_clone g.QS.QuorumSet.has_quorum g.QS.QuorumSet.is_voter ds
    (record (view c.args.self.now) { stat = c.args.from.now.stat }) (view c.loop-entry.self))
    (take_all c.loop-entry.entry-index es at_end) c.loop-entry.invariant.each
