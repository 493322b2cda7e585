use Rattle.std.proofs.Common.{List, ◌≡◌, ◌≤◌, ◌∙◌, ap, length, refl, rules, subst, sym}
use Rattle.std.specs.List.{AllZip}
use Rattle.std.specs.Map.{keys_of, lookup}
use Rattle.raft_progress.specs.Inner.Positions.{position_in}
use Rattle.raft_progress.proofs.lemmas.progress.CloneLemmas.{same_ids, same_length}
use Rattle.raft_progress.proofs.lemmas.progress.positions.PositionsLemmas.{found_alike}
use Rattle.raft_progress.proofs.progress.vec_progress.VecProgress.clone_over.Goals as goal

pub returns : goal.returns
returns g c = record {
  cloned = record {
    quorum_set = refl;
    entries = subst (λ (es : List (g.row.ID.Denot × g.row.V.Denot)). AllZip (λ d e. (e.0 ≡ d.0) × g.V.Clone.is_clone d.1 e.1) es
        c.in_ok-clone_entries.field-0.items) c.deref.ensures.value c.in_ok-clone_entries.ensures;
    voter_count = refl;
    default_part = refl;
    granted = refl;
    stat = search rules;
  };
}

pub invariant_of-result : goal.invariant_of-result
invariant_of-result g c = record {
  voters_fit = subst (λ n. c.args.self.now.voter_count ≤ n)
      (sym (same_length (λ (d e : g.row.ID.Denot × g.row.V.Denot). (e.0 ≡ d.0) × g.V.Clone.is_clone d.1 e.1) c.deref.result.now
      c.in_ok-clone_entries.field-0.items c.in_ok-clone_entries.ensures ∙ ap length c.deref.ensures.value)) c.args.self.now.voters_fit;
  scratch_fits = ap length (c.in_ok-copy_ids.ensures ∙ c.deref-2.ensures.value) ∙ c.args.self.now.scratch_fits;
  agree = λ fresh.
      let same : keys_of c.in_ok-clone_entries.field-0.items ≡ keys_of c.args.self.now.entries.items =
      same_ids g.V.Clone.is_clone c.deref.result.now c.in_ok-clone_entries.field-0.items c.in_ok-clone_entries.ensures
      ∙ ap keys_of c.deref.ensures.value in
      found_alike g.met.ID.Eq.laws (keys_of c.args.self.now.entries.items) (keys_of c.in_ok-clone_entries.field-0.items)
      (position_in g.ID.PartialEq.eq c.args.self.now.positions.sorted.items)
      (position_in g.ID.PartialEq.eq c.in_ok-try_clone.field-0.sorted.items) same
      (λ x. ap (lookup (g.ID.PartialEq.eq x)) c.in_ok-try_clone.ensures.sorted)
      (c.args.self.now.agree (sym c.in_ok-try_clone.ensures.stale ∙ fresh));
}
