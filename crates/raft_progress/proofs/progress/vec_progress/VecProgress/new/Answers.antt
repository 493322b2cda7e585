use Rattle.std.proofs.Common.{ap, subst, sym, ◌∙◌, ◌++◌}
use Rattle.std.specs.List.{IsDistinct}
use Rattle.std.specs.Map.{keys_of}
use Rattle.raft_progress.proofs.lemmas.progress.NewProgressLemmas.{IsDistinct-from_cmp, all_placed, distinct_with_learners, fresh_is_new, fresh_in_order, keys_placed, voters_within}
use Rattle.raft_progress.proofs.progress.vec_progress.VecProgress.new.Goals as goal

pub returns-clause-made : goal.returns-clause-made
returns-clause-made g c =
    let voters = c.in_ok-append_ids.ensures in
    let rest = c.in_ok-append_ids-2.ensures in
    fresh_is_new g.met.ID.Eq.laws g.met.P.Ord.total g.V.ProgressPart.part_of g.QS.QuorumSet.has_quorum g.V.Clone.is_clone
    (g.QS.QuorumSet.is_voter c.args.quorum_set) c.args.quorum_set c.in_ok-scratch.scratch.items c.args.learners.now c.args.default
    c.requires.clones_have_the_part _ _ _
    (IsDistinct-from_cmp g.ID.Ord.cmp g.met.ID.Ord.matches_eq _ c.in_ok-scratch.ensures.ascending)
    c.in_ok-scratch.ensures.voters c.requires.learners_fit
    (keys_placed _ _ _ _ _ c.in_ok-entries.ensures.items voters rest ∙ ap (λ ids. ids ++ c.args.learners.now) c.deref.ensures.value)
    (all_placed _ _ _ _ _ c.in_ok-entries.ensures.items voters rest)
    (c.len-voter_count.ensures ∙ c.in_ok-scratch.scratch.ok.0) c.part-part.ensures

pub returns-clause-ordered : goal.returns-clause-ordered
returns-clause-ordered g c =
    let voters = c.in_ok-append_ids.ensures in
    let rest = c.in_ok-append_ids-2.ensures in
    fresh_in_order g.met.ID.Eq.laws g.met.P.Ord.total g.V.ProgressPart.part_of g.QS.QuorumSet.has_quorum g.V.Clone.is_clone
    (g.QS.QuorumSet.is_voter c.args.quorum_set) c.args.quorum_set c.in_ok-scratch.scratch.items c.args.learners.now c.args.default
    c.requires.clones_have_the_part _ _ _
    (IsDistinct-from_cmp g.ID.Ord.cmp g.met.ID.Ord.matches_eq _ c.in_ok-scratch.ensures.ascending)
    c.in_ok-scratch.ensures.voters c.requires.learners_fit
    (keys_placed _ _ _ _ _ c.in_ok-entries.ensures.items voters rest ∙ ap (λ ids. ids ++ c.args.learners.now) c.deref.ensures.value)
    (all_placed _ _ _ _ _ c.in_ok-entries.ensures.items voters rest)
    (c.len-voter_count.ensures ∙ c.in_ok-scratch.scratch.ok.0) c.part-part.ensures

pub returns-clause-entries : goal.returns-clause-entries
returns-clause-entries g c = record {
  voters = c.in_ok-scratch.scratch.items;
  ascending = c.in_ok-scratch.ensures.ascending;
  ids = keys_placed _ _ _ _ _ c.in_ok-entries.ensures.items c.in_ok-append_ids.ensures c.in_ok-append_ids-2.ensures
      ∙ ap (λ ids. ids ++ c.args.learners.now) c.deref.ensures.value;
  first = c.len-voter_count.ensures ∙ c.in_ok-scratch.scratch.ok.0;
}

pub invariant_of-result : goal.invariant_of-result
invariant_of-result g c = record {
  voters_fit = voters_within _ c.in_ok-scratch.scratch.items c.args.learners.now _
      (keys_placed _ _ _ _ _ c.in_ok-entries.ensures.items c.in_ok-append_ids.ensures c.in_ok-append_ids-2.ensures
      ∙ ap (λ ids. ids ++ c.args.learners.now) c.deref.ensures.value) (c.len-voter_count.ensures ∙ c.in_ok-scratch.scratch.ok.0);
  scratch_fits = sym (c.len-voter_count.ensures ∙ c.in_ok-scratch.scratch.ok.0);
  agree = λ fresh. rw c.deref-2.ensures.value at c.in_ok-positions.ensures.at_positions;
}

pub of-requires : goal.of-requires
of-requires g c =
    subst (IsDistinct g.ID.PartialEq.eq) (sym
    (ap keys_of c.deref-2.ensures.value ∙ keys_placed _ _ _ _ _ c.in_ok-entries.ensures.items c.in_ok-append_ids.ensures
    c.in_ok-append_ids-2.ensures ∙ ap (λ ids. ids ++ c.args.learners.now) c.deref.ensures.value))
    (distinct_with_learners g.met.ID.Eq.laws (g.QS.QuorumSet.is_voter c.args.quorum_set) c.in_ok-scratch.scratch.items c.args.learners.now
    (IsDistinct-from_cmp g.ID.Ord.cmp g.met.ID.Ord.matches_eq _ c.in_ok-scratch.ensures.ascending) c.in_ok-scratch.ensures.voters
    c.requires.learners_fit)
