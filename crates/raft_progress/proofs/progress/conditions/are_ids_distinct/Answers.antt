use Rattle.std.proofs.Common.{sym, subst, List}
use Rattle.std.specs.List.{IsDistinct}
use Rattle.std.specs.Map.{keys_of}
use Rattle.raft_progress.proofs.lemmas.progress.InOrderLemmas.{distinct_from_test, same_test, test_from_distinct}
use Rattle.raft_progress.proofs.progress.conditions.are_ids_distinct.Goals as goal

pub returns-then-known : goal.returns-then-known
returns-then-known g c = sym (test_from_distinct g.met.ID.Eq.laws c.args.entries.now (c.requires.known c.if-known.true))

pub returns-then-entries-gt-FEW : goal.returns-then-entries-gt-FEW
returns-then-entries-gt-FEW g c =
    let entries = c.args.entries.now in
    let whole = sym c.split_at.ensures.by_index.0 in
    same_test _ _
    (λ t. test_from_distinct g.met.ID.Eq.laws entries (subst (λ (es : List (g.row.ID.Denot × g.row.V.Denot)).
    IsDistinct g.ID.PartialEq.eq (keys_of es)) whole (c.has_distinct_voters.ensures.0 t)))
    (λ t. c.has_distinct_voters.ensures.1 (subst (λ (es : List (g.row.ID.Denot × g.row.V.Denot)).
    IsDistinct g.ID.PartialEq.eq (keys_of es)) (sym whole) (distinct_from_test g.met.ID.Eq.laws entries t)))
