use Rattle.std.proofs.Common.{arith, sym, ap, ◌∙◌, subst, ◌≡◌, ◌<◌, ◌+◌, ◌++◌, ◌∷◌, [], take, length, List, Option}
use Rattle.std.specs.Map.{lookup}
use Rattle.std.proofs.lemmas.List.{append_assoc, take_all, take_more}
use Rattle.raft_progress.specs.Inner.Conditions.{IsLeastPassing, is_value_below}
use Rattle.raft_progress.proofs.lemmas.progress.upgrade.BelowLemmas.{least_falls, least_holds, least_stays}
use Rattle.raft_progress.proofs.progress.vec_progress.VecProgress.least_of.Goals as goal
use Rattle.raft_progress.proofs.progress.vec_progress.VecProgress.least_of.Goals.{then-is_value_below+then-is_below_bound, else-is_value_below, else-is_value_below-via-then-is_value_below+else-is_below_bound, else-is_value_below-via-else-is_value_below}

pub loop-id-preserved : goal.loop-id-preserved
loop-id-preserved g c = λ seen h.
    let test = λ (x : g.row.ID.Denot). is_value_below g.P.Ord.cmp g.V.ProgressPart.part_of c.args.part
    (lookup (g.ID.PartialEq.eq x) c.args.self.now.entries.items) in
    let ids = c.args.ids.now in
    let i = c.loop-id.id-index in
    let x = c.id-item.result in
    let l : i < length ids = omega arith in
    let more : (seen ++ take i ids) ++ x ∷ [] ≡ seen ++ take (i + 1) ids =
    append_assoc seen (take i ids) (x ∷ [])
    ∙ ap (λ xs. seen ++ xs) (sym (take_more ids i x l ∙ ap (λ e. take i ids ++ e ∷ []) (sym c.id-item.is))) in
    let before = c.loop-id.invariant seen h in
    subst (λ (xs : List g.row.ID.Denot). IsLeastPassing g.ID.Ord.cmp test xs c.if-is_value_below.least) more
    (elim c.if-is_value_below.branch [
      | then-is_value_below+then-is_below_bound w ↦
          subst (λ (o : Option g.row.ID.Denot). IsLeastPassing g.ID.Ord.cmp test ((seen ++ take i ids) ++ x ∷ []) o) (sym w.least-is)
          (least_falls g.met.ID.Ord.total test (seen ++ take i ids) x c.loop-id.least
          (sym c.is_value_below.ensures ∙ w.if-is_value_below.true) (sym w.is_below_bound.ensures ∙ w.if-is_below_bound.true) before)
      | else-is_value_below w ↦
          subst (λ (o : Option g.row.ID.Denot). IsLeastPassing g.ID.Ord.cmp test ((seen ++ take i ids) ++ x ∷ []) o) (sym w.least-is)
          (elim w.else-is_value_below.branch [
            | else-is_value_below-via-then-is_value_below+else-is_below_bound w' ↦
                least_holds g.met.ID.Ord.total test (seen ++ take i ids) x c.loop-id.least
                (sym w'.is_below_bound.ensures ∙ w'.if-is_below_bound.false) before
            | else-is_value_below-via-else-is_value_below w' ↦
                least_stays g.met.ID.Ord.total test (seen ++ take i ids) x c.loop-id.least
                (sym c.is_value_below.ensures ∙ w'.if-is_value_below.false) before
          ])
    ])

pub returns : goal.returns
returns g c = λ seen h.
    subst (λ (xs : List g.row.ID.Denot). IsLeastPassing g.ID.Ord.cmp (λ x. is_value_below g.P.Ord.cmp g.V.ProgressPart.part_of c.args.part
    (lookup (g.ID.PartialEq.eq x) c.args.self.now.entries.items)) (seen ++ xs) c.loop-id.least)
    (take_all c.loop-id.id-index c.args.ids.now (omega arith)) (c.loop-id.invariant seen h)
