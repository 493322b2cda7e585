use Rattle.std.proofs.Common.{sym, ◌∙◌, ap, subst}
use Rattle.std.specs.List.Sorted.{IsStrictlySortedBy}
use Rattle.std.specs.Set.{is_member}
use Rattle.std.proofs.lemmas.List.Filters.{dedup_is}
use Rattle.std.proofs.lemmas.List.Kept.{IsStrictlySortedBy-dedup}
use Rattle.std.proofs.lemmas.List.Sorted.{list_any-IsPermutation}
use Rattle.raft_members.proofs.lemmas.quorum.MajorityLemmas.{is_member-dedup}
use Rattle.raft_members.proofs.quorum.quorum_set_impl.sorted.Goals as goal

pub returns-clause-ascending : goal.returns-clause-ascending
returns-clause-ascending g c =
    subst (IsStrictlySortedBy g.ID.Ord.cmp) (sym (dedup_is _ _ _ c.dedup.ensures.filtered))
    (IsStrictlySortedBy-dedup g.met.ID.Ord.total g.met.ID.Ord.matches_eq _ c.sort_unstable.ensures.sorted)

pub returns-clause-members : goal.returns-clause-members
returns-clause-members g c = λ x.
    ap (λ ks. is_member g.ID.PartialEq.eq ks x) (dedup_is _ _ _ c.dedup.ensures.filtered)
    ∙ is_member-dedup g.met.ID.Eq.laws _ x
    ∙ sym (list_any-IsPermutation (g.ID.PartialEq.eq x) _ _ c.sort_unstable.ensures.permutation)
