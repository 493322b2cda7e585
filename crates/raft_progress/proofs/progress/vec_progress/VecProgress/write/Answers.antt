use Rattle.std.proofs.Common.{arith, sym, ap, ◌∙◌, refl, subst, ◌≡◌, ◌<◌, ◌≤◌, ◌^◌, length, set, true, false, true≢false}
use Rattle.std.specs.Ordering.{is_lt}
use Rattle.std.specs.List.{IsDistinct}
use Rattle.std.proofs.Math.ListN.{length-set}
use Rattle.std.proofs.lemmas.List.{get_or-set_same, set-get_or}
use Rattle.std.proofs.lemmas.List.Quantifiers.{position-Some}
use Rattle.std.proofs.lemmas.Option.{get_or_from_slice_get, slice_get_read}
use Rattle.raft_progress.specs.Inner.Settled.{CanCountOnceRisen}
use Rattle.raft_progress.specs.progress.ProgressState.{IsSame}
use Rattle.raft_progress.specs.progress.ProgressView.{ProgressView, state}
use Rattle.raft_progress.specs.progress.Updated.{IsSettled}
use Rattle.raft_progress.specs.progress.VecProgress.{view}
use Rattle.raft_progress.proofs.lemmas.ListLemmas.{some_inside}
use Rattle.raft_progress.proofs.lemmas.OrderLemmas.{AtMost-refl, AtMost-from_not_lt}
use Rattle.raft_progress.proofs.lemmas.progress.OutcomeLemmas.{outcome}
use Rattle.raft_progress.proofs.lemmas.progress.SizeLemmas.{counts_once_risen}
use Rattle.raft_progress.proofs.lemmas.progress.UpdateLemmas.{IsSame-refl, was, wrote}
use Rattle.raft_progress.proofs.lemmas.progress.positions.PositionsLemmas.{keys_written}
use Rattle.raft_progress.proofs.lemmas.progress.entries.EntriesLemmas.{lookup_absent, no_value}
use Rattle.raft_progress.proofs.progress.vec_progress.VecProgress.write.Goals as goal

pub returns-in_default-clause-step : goal.returns-in_default-clause-step
returns-in_default-clause-step g c =
    let p = c.args.self.now in
    let gone = lookup_absent (g.ID.PartialEq.eq c.args.id.now) p.entries.items (sym c.index.ensures ∙ c.in_default.is) in
    record {
      values = (gone, c.requires.ordered.counted, IsSame-refl (state g.ID.PartialEq.eq (view p)));
      answered = record {
        refused = λ r. absurd (true≢false (sym r));
        done = λ r. record {
          counts = c.saturating_add-self.ensures;
          same_voter_count = refl;
          monotone = AtMost-refl g.met.P.Ord.total p.granted;
          known = λ v e. absurd (no_value _ _ gone e);
          unknown = λ e. ap (λ n. record (view p) { stat = record p.stat { update_count = n } }) c.saturating_add-self.ensures;
        };
        tells = refl;
      };
    }

pub returns-then-is_below-clause-step : goal.returns-then-is_below-clause-step
returns-then-is_below-clause-step g c =
    let p = c.args.self.now in
    let ws = p.entries.items in
    let position = c.in-Some.position in
    let e = c.index_mut-entry.result.now in
    let found = sym c.in-Some.ensures in
    let within = (position-Some (λ (f : g.row.ID.Denot × g.row.V.Denot). g.ID.PartialEq.eq c.args.id.now f.0) ws position e found).0 in
    let at = slice_get_read ws (length ws) position e refl within c.index_mut-entry.ensures.value in
    let present = was g.met.ID.Eq.laws ws c.args.id.now position e found at in
    let falls : is_lt (g.P.Ord.cmp (g.V.ProgressPart.part_of c.args.value) (g.V.ProgressPart.part_of e.1)) ≡ true =
    sym (c.is_below.ensures ∙ ap (λ q. is_lt (g.P.Ord.cmp q c.part-before.result)) c.part-after.ensures
    ∙ ap (λ q. is_lt (g.P.Ord.cmp (g.V.ProgressPart.part_of c.args.value) q)) c.part-before.ensures) ∙ c.if-is_below.true in
    let same_progress_entries : set ws position e ≡ ws = ap (λ f. set ws position f) c.index_mut-entry.ensures.value
    ∙ set-get_or ws position e in
    let same = ap (λ es. record (view p) { entries = es }) same_progress_entries in
    record {
      values = (
        e.1,
        present,
        falls,
        subst (λ (q : ProgressView g.row.ID.Denot g.row.V.Denot g.row.P.Denot g.row.QS.Denot). IsSame (state g.ID.PartialEq.eq (view p))
            (state g.ID.PartialEq.eq q)) (sym same) (IsSame-refl (state g.ID.PartialEq.eq (view p))),
      );
      answered = record {
        refused = λ r. same;
        done = λ r. absurd (true≢false r);
        tells = tt;
      };
    }

pub invariant_of-self-2 : goal.invariant_of-self-2
invariant_of-self-2 g c =
    let p = c.args.self.now in
    let ws = p.entries.items in
    let position = c.in-Some.position in
    let e = c.index_mut-entry.result.now in
    let found = sym c.in-Some.ensures in
    let within = (position-Some (λ (f : g.row.ID.Denot × g.row.V.Denot). g.ID.PartialEq.eq c.args.id.now f.0) ws position e found).0 in
    let at = slice_get_read ws (length ws) position e refl within c.index_mut-entry.ensures.value in
    record {
      voters_fit = subst (λ n. p.voter_count ≤ n) (sym (length-set ws position (e.0, c.args.value))) p.voters_fit;
      scratch_fits = p.scratch_fits;
      agree = λ fresh. rw (keys_written ws position e c.args.value at) (p.agree fresh);
    }

pub restore_order-requires-clause-at : goal.restore_order-requires-clause-at
restore_order-requires-clause-at g c = λ f is.
    let ws = c.args.self.now.entries.items in
    let position = c.in-Some.position in
    let e = c.index_mut-entry.result.now in
    let within =
    (position-Some (λ (f : g.row.ID.Denot × g.row.V.Denot). g.ID.PartialEq.eq c.args.id.now f.0) ws position e (sym c.in-Some.ensures)).0 in
    c.part-after.ensures
    ∙ ap (λ (h : g.row.ID.Denot × g.row.V.Denot). g.V.ProgressPart.part_of h.1)
    (sym (get_or-set_same ws position (e.0, c.args.value) f within)
    ∙ get_or_from_slice_get (set ws position (e.0, c.args.value)) position f f is)

pub restore_order-requires-clause-distinct : goal.restore_order-requires-clause-distinct
restore_order-requires-clause-distinct g c =
    let ws = c.args.self.now.entries.items in
    let position = c.in-Some.position in
    let e = c.index_mut-entry.result.now in
    let found = sym c.in-Some.ensures in
    let within = (position-Some (λ (f : g.row.ID.Denot × g.row.V.Denot). g.ID.PartialEq.eq c.args.id.now f.0) ws position e found).0 in
    let at = slice_get_read ws (length ws) position e refl within c.index_mut-entry.ensures.value in
    subst (IsDistinct g.ID.PartialEq.eq) (sym (keys_written ws position e c.args.value at)) c.requires.ordered.distinct

pub restore_order-requires-clause-can_count : goal.restore_order-requires-clause-can_count
restore_order-requires-clause-can_count g c = λ counts.
    let p = c.args.self.now in
    let ws = p.entries.items in
    let position = c.in-Some.position in
    let value = c.args.value in
    let e = c.index_mut-entry.result.now in
    let found = sym c.in-Some.ensures in
    let within = (position-Some (λ (f : g.row.ID.Denot × g.row.V.Denot). g.ID.PartialEq.eq c.args.id.now f.0) ws position e found).0 in
    let at = slice_get_read ws (length ws) position e refl within c.index_mut-entry.ensures.value in
    let rises : is_lt (g.P.Ord.cmp (g.V.ProgressPart.part_of value) (g.V.ProgressPart.part_of e.1)) ≡ false =
    sym (c.is_below.ensures ∙ ap (λ q. is_lt (g.P.Ord.cmp q c.part-before.result)) c.part-after.ensures
    ∙ ap (λ q. is_lt (g.P.Ord.cmp (g.V.ProgressPart.part_of value) q)) c.part-before.ensures) ∙ c.if-is_below.false in
    let written : ProgressView g.row.ID.Denot g.row.V.Denot g.row.P.Denot g.row.QS.Denot = record (view p) {
      entries = set ws position (e.0, value);
      stat = record p.stat { update_count = c.saturating_add-self-2.result };
    } in
    subst (λ (a : g.row.P.Denot). CanCountOnceRisen g.ID.PartialEq.eq g.P.Ord.cmp g.V.ProgressPart.part_of g.QS.QuorumSet.is_voter written
    position a) (sym c.part-after.ensures)
    (counts_once_risen g.met.ID.Eq.laws g.met.P.Ord.total g.V.ProgressPart.part_of g.QS.QuorumSet.has_quorum
    g.met.QS.QuorumSet.superset g.QS.QuorumSet.is_voter written ws c.requires.ordered c.args.id.now position e found
    c.index_mut-entry.ensures.value value
    (AtMost-from_not_lt g.met.P.Ord.total (g.V.ProgressPart.part_of value) (g.V.ProgressPart.part_of e.1) rises) refl
    (was g.met.ID.Eq.laws ws c.args.id.now position e found at) (wrote g.met.ID.Eq.laws ws c.args.id.now position e found at value)
    (c.requires.voters counts))

pub returns : goal.returns
returns g c =
    let p = c.args.self.now in
    let ws = p.entries.items in
    let position = c.in-Some.position in
    let value = c.args.value in
    let e = c.index_mut-entry.result.now in
    let found = sym c.in-Some.ensures in
    let within = (position-Some (λ (f : g.row.ID.Denot × g.row.V.Denot). g.ID.PartialEq.eq c.args.id.now f.0) ws position e found).0 in
    let at = slice_get_read ws (length ws) position e refl within c.index_mut-entry.ensures.value in
    let present = was g.met.ID.Eq.laws ws c.args.id.now position e found at in
    let rises : is_lt (g.P.Ord.cmp (g.V.ProgressPart.part_of value) (g.V.ProgressPart.part_of e.1)) ≡ false =
    sym (c.is_below.ensures ∙ ap (λ q. is_lt (g.P.Ord.cmp q c.part-before.result)) c.part-after.ensures
    ∙ ap (λ q. is_lt (g.P.Ord.cmp (g.V.ProgressPart.part_of value) q)) c.part-before.ensures) ∙ c.if-is_below.false in
    let fits : p.stat.is_quorum_count < 2 ^ 64 = omega arith in
    let written : ProgressView g.row.ID.Denot g.row.V.Denot g.row.P.Denot g.row.QS.Denot = record (view p) {
      entries = set ws position (e.0, value);
      stat = record p.stat { update_count = c.saturating_add-self-2.result };
    } in
    let oc = outcome g.met.ID.Eq.laws g.met.P.Ord.total g.V.ProgressPart.part_of g.QS.QuorumSet.has_quorum g.met.QS.QuorumSet.superset
    written
    (view c.restore_order.new.self) ws c.requires.ordered c.args.id.now position e found c.index_mut-entry.ensures.value value
    (AtMost-from_not_lt g.met.P.Ord.total (g.V.ProgressPart.part_of value) (g.V.ProgressPart.part_of e.1) rises) refl present
    (wrote g.met.ID.Eq.laws ws c.args.id.now position e found at value) c.part-before.result c.part-before.ensures fits
    c.restore_order.ensures in
    record {
      step = record {
        values = (e.1, present, rises, oc.written, oc.ordered.counted);
        answered = record {
          refused = λ r. absurd (true≢false (sym r));
          done = λ r. record {
            counts = oc.updates ∙ c.saturating_add-self-2.ensures;
            same_voter_count = oc.voter_count;
            monotone = oc.monotone;
            known = λ v is.
                let same : e.1 ≡ v = some_inside _ _ (sym present ∙ is) in (
                  value,
                  refl,
                  oc.written,
                  subst (λ (u : g.row.V.Denot). IsSettled g.ID.PartialEq.eq g.P.Ord.cmp g.V.ProgressPart.part_of (view p) c.args.id.now u
                      value (view c.restore_order.new.self)) same
                      record {
                        rises = oc.rises;
                        stays = oc.stays;
                        tests = oc.tests;
                        counts_tests = oc.counts_tests;
                        few_tests = oc.few_tests;
                        tested_to_rise = oc.tested_to_rise;
                        not_tested = oc.not_tested;
                      },
                );
            unknown = λ none. absurd (no_value _ _ none present);
          };
          tells = refl;
        };
      };
      ordered = oc.ordered;
    }
