use Rattle.std.proofs.Common.{◌≡◌, ◌/◌, ◌∙◌, true, false, arith, ap, sym, get_or, length, List}
use Rattle.std.specs.List.{list_any}
use Rattle.std.specs.Ordering.{is_lt}
use Rattle.raft_members.proofs.lemmas.quorum.InOrderLemmas.{front_has, back_has}
use Rattle.raft_members.proofs.quorum.quorum_set_impl.half_with.Goals as goal

pub returns-then-is_lt-clause-same : goal.returns-then-is_lt-clause-same
returns-then-is_lt-clause-same g c up =
    let xs = c.args.voters.now in
    let middle = c.index-back-0.result in
    let less : is_lt (g.ID.Ord.cmp c.args.id middle) ≡ true =
    ap is_lt (sym c.cmp.ensures) ∙ sym c.is_lt.ensures ∙ c.if-is_lt.true in
    ap (list_any (λ y. g.ID.PartialEq.eq y c.args.id)) c.split_at.ensures.front
    ∙ front_has g.met.ID.Ord.total g.met.ID.Ord.matches_eq xs c.args.id (length xs / 2) middle (omega (arith, c.requires))
    (c.index-back-0.is ∙ ap (λ (ys : List g.row.ID.Denot). get_or ys 0 middle) c.split_at.ensures.back) up less

pub returns-else-is_lt-clause-same : goal.returns-else-is_lt-clause-same
returns-else-is_lt-clause-same g c up =
    let xs = c.args.voters.now in
    let middle = c.index-back-0.result in
    let not_below : is_lt (g.ID.Ord.cmp c.args.id middle) ≡ false =
    ap is_lt (sym c.cmp.ensures) ∙ sym c.is_lt.ensures ∙ c.if-is_lt.false in
    ap (list_any (λ y. g.ID.PartialEq.eq y c.args.id)) c.split_at.ensures.back
    ∙ back_has g.met.ID.Ord.total g.met.ID.Ord.matches_eq xs c.args.id (length xs / 2) middle (omega (arith, c.requires))
    (c.index-back-0.is ∙ ap (λ (ys : List g.row.ID.Denot). get_or ys 0 middle) c.split_at.ensures.back) up not_below
