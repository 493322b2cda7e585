use Rattle.std.proofs.Common.{sym, ap, ◌∙◌, true≢false, is_eq, take, List, subst}
use Rattle.std.specs.List.{IsDistinct, list_all}
use Rattle.std.specs.Cmp.{first_so, second_so}
use Rattle.std.specs.Map.{keys_of}
use Rattle.raft_progress.specs.Inner.Recount.{IsGreatest, at_least}
use Rattle.raft_progress.specs.Inner.Conditions.{never_rises}
use Rattle.raft_progress.specs.progress.Entries.{state_of}
use Rattle.raft_progress.proofs.lemmas.progress.recount.CountedAfreshLemmas.{IsCounted-from_greatest}
use Rattle.raft_progress.proofs.lemmas.progress.InOrderLemmas.{counted_once, counted_tied, distinct_from_test, equal_from_test, falling_from_test, lowest_from_test, test_from_distinct, test_from_falling, test_from_lowest}
use Rattle.raft_progress.proofs.lemmas.progress.UpdateLemmas.{IsDistinct-voters}
use Rattle.raft_progress.proofs.progress.vec_progress.VecProgressProgress.is_in_order.Goals as goal

pub returns-then-not-are_ids_distinct-clause-answer : goal.returns-then-not-are_ids_distinct-clause-answer
returns-then-not-are_ids_distinct-clause-answer g c = (
  (λ f. absurd (true≢false (sym f))),
  (λ r. absurd (true≢false
      (sym (test_from_distinct g.met.ID.Eq.laws c.args.self.now.entries.items r.distinct)
      ∙ sym (rw c.deref.ensures.value at c.are_ids_distinct.ensures)
      ∙ c.if-not-are_ids_distinct.true))),
)

pub returns-then-not-is_ordered-clause-answer : goal.returns-then-not-is_ordered-clause-answer
returns-then-not-is_ordered-clause-answer g c =
    let told = rw c.deref-2.ensures.value at c.is_ordered.ensures in
    let entries = c.args.self.now.entries.items in
    let voters = take c.args.self.now.voter_count entries in (
      (λ f. absurd (true≢false (sym f))),
      (λ r.
          let all = rw (
            test_from_falling g.met.P.Ord.total g.V.ProgressPart.part_of c.args.self.now.granted voters r.falling,
            test_from_lowest g.met.ID.Eq.laws g.met.P.Ord.total g.V.ProgressPart.part_of g.QS.QuorumSet.has_quorum
                c.args.self.now.quorum_set entries c.args.self.now.voter_count c.args.self.now.default_part r.distinct r.not_below,
          ) at told in
          absurd (true≢false (sym all ∙ c.if-not-is_ordered.true))),
    )

pub count-counted-requires-clause-distinct : goal.count-counted-requires-clause-distinct
count-counted-requires-clause-distinct g c =
    let entries = c.args.self.now.entries.items in
    let d = distinct_from_test g.met.ID.Eq.laws entries
    (sym (rw c.deref.ensures.value at c.are_ids_distinct.ensures) ∙ c.if-not-are_ids_distinct.false) in
    rw c.deref-2.ensures.value (IsDistinct-voters g.met.ID.Eq.laws c.args.self.now.voter_count entries d)

pub returns-clause-answer : goal.returns-clause-answer
returns-clause-answer g c =
    let told = rw c.deref-2.ensures.value at c.is_ordered.ensures in
    let entries = c.args.self.now.entries.items in
    let voters = take c.args.self.now.voter_count entries in
    let all = sym told ∙ c.if-not-is_ordered.false in
    let falls = never_rises g.P.Ord.cmp g.V.ProgressPart.part_of c.args.self.now.granted voters in
    let low = list_all (at_least g.P.Ord.cmp g.V.ProgressPart.part_of c.args.self.now.default_part) voters in
    let d : IsDistinct g.ID.PartialEq.eq (keys_of entries) =
    distinct_from_test g.met.ID.Eq.laws entries
    (sym (rw c.deref.ensures.value at c.are_ids_distinct.ensures) ∙ c.if-not-are_ids_distinct.false) in
    let s = state_of g.ID.PartialEq.eq c.args.self.now.quorum_set entries c.args.self.now.voter_count c.args.self.now.default_part in
    let k =
    IsCounted-from_greatest g.met.ID.Eq.laws g.met.P.Ord.total g.V.ProgressPart.part_of g.QS.QuorumSet.has_quorum c.args.self.now.quorum_set
    entries c.args.self.now.voter_count c.args.self.now.default_part d c.count-counted.result
    (subst (λ (es : List (g.row.ID.Denot × g.row.V.Denot)). IsGreatest g.ID.PartialEq.eq g.P.Ord.cmp g.V.ProgressPart.part_of
    (g.QS.QuorumSet.has_quorum c.args.self.now.quorum_set) (take c.args.self.now.voter_count es)
    (take c.args.self.now.voter_count es) c.args.self.now.default_part c.count-counted.result) c.deref-2.ensures.value
    c.count-counted.ensures) in (
      (λ e. record {
        distinct = d;
        falling = falling_from_test g.met.P.Ord.total g.V.ProgressPart.part_of c.args.self.now.granted voters
            (first_so falls low all);
        not_below =
            lowest_from_test g.met.ID.Eq.laws g.met.P.Ord.total g.V.ProgressPart.part_of g.QS.QuorumSet.has_quorum
            c.args.self.now.quorum_set entries c.args.self.now.voter_count c.args.self.now.default_part d
            (second_so falls low all);
        counted = counted_tied g.met.P.Ord.total g.V.ProgressPart.part_of g.QS.QuorumSet.has_quorum s c.count-counted.result
            c.args.self.now.granted k (equal_from_test _ (ap is_eq (sym c.cmp.ensures) ∙ sym c.is_eq.ensures ∙ e));
      }),
      (λ r. c.is_eq.ensures ∙ ap is_eq (c.cmp.ensures
          ∙ counted_once g.met.P.Ord.total g.V.ProgressPart.part_of g.QS.QuorumSet.has_quorum s c.count-counted.result
          c.args.self.now.granted k r.counted)),
    )

-- only the scratch space has changed
pub returns-clause-ordered : goal.returns-clause-ordered
returns-clause-ordered g c = (returns-clause-answer g c).0
