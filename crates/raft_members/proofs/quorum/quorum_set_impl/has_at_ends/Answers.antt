use Rattle.std.proofs.Common.{◌≡◌, ◌||◌, Bool, rules, tests, sym, ap, ◌∙◌, reverse}
use Rattle.std.specs.List.{list_any}
use Rattle.std.specs.Slice.Iter.{iter_rest}
use Rattle.std.proofs.lemmas.Iterator.{YieldsList-from_slice}
use Rattle.std.proofs.lemmas.Iterator.Adapters.{YieldsList-from_rev_slice}
use Rattle.std.proofs.lemmas.Iterator.Search.{any_from_yields_List}
use Rattle.std.proofs.lemmas.List.Sorted.{IsPermutation-reverse, list_any-IsPermutation}
use Rattle.raft_members.proofs.quorum.quorum_set_impl.has_at_ends.Goals as goal

pub returns-else-any : goal.returns-else-any
returns-else-any g c =
    let p : g.row.ID.Denot → Bool = λ y. g.ID.PartialEq.eq y c.args.id in
    let front : c.any.result ≡ list_any p c.args.first.now =
    any_from_yields_List p _ _ c.any.result c.any.ensures.ran (YieldsList-from_slice c.args.first.now c.iter.ensures.rest)
    (λ x b q k. search (rules, tests)) in
    let back : c.any-else-any.result ≡ list_any p (reverse c.args.last.now) =
    any_from_yields_List p _ _ c.any-else-any.result c.any-else-any.ensures.ran
    (YieldsList-from_rev_slice c.args.last.now (ap iter_rest c.rev.ensures.source ∙ c.iter-else-any.ensures.rest))
    (λ x b q k. search (rules, tests)) in
    back ∙ sym (list_any-IsPermutation p _ _ (IsPermutation-reverse c.args.last.now))
    ∙ ap (λ b. b || list_any p c.args.last.now) (sym c.if-any.false ∙ front)
