use Rattle.std.proofs.Common.{◌≡◌, ◌≤◌, ◌<◌, ◌^◌, ◌∙◌, false, arith, ap, sym, refl, subst, set, length, true≢false}
use Rattle.std.specs.List.{IsDistinct}
use Rattle.std.specs.Option.{option_cmp}
use Rattle.std.specs.Ordering.{is_lt}
use Rattle.std.proofs.Math.ListN.{length-set}
use Rattle.std.proofs.lemmas.List.{get_or-set_same, set-get_or}
use Rattle.std.proofs.lemmas.List.Quantifiers.{position-Some}
use Rattle.std.proofs.lemmas.Option.{get_or_from_slice_get, slice_get_read}
use Rattle.raft_base.specs.LogId.{log_id_cmp}
use Rattle.raft_base.specs.LogIdLawful.{optional-log_id_cmp-total}
use Rattle.raft_progress.specs.Inner.Settled.{CanCountOnceRisen}
use Rattle.raft_progress.specs.entry.EntryTable.{entry_after_ack}
use Rattle.raft_progress.specs.progress.InOrder.{IsInOrder}
use Rattle.raft_progress.specs.progress.ProgressView.{ProgressView}
use Rattle.raft_progress.specs.progress.Updated.{IsSettled}
use Rattle.raft_progress.specs.progress.VecProgress.{view}
use Rattle.raft_progress.specs.declared.entry.ProgressEntryOf.{ProgressEntryOf}
use Rattle.raft_progress.proofs.lemmas.ListLemmas.{some_inside}
use Rattle.raft_progress.proofs.lemmas.OrderLemmas.{not_lt-from_AtMost}
use Rattle.raft_progress.proofs.lemmas.entry.ResponseLemmas.{refused_by, taken_by}
use Rattle.raft_progress.proofs.lemmas.progress.OutcomeLemmas.{outcome}
use Rattle.raft_progress.proofs.lemmas.progress.SizeLemmas.{counts_once_risen}
use Rattle.raft_progress.proofs.lemmas.progress.UpdateLemmas.{was, wrote}
use Rattle.raft_progress.proofs.lemmas.progress.entries.EntriesLemmas.{lookup_absent, no_value}
use Rattle.raft_progress.proofs.lemmas.progress.positions.PositionsLemmas.{keys_written}
use Rattle.raft_progress.proofs.progress.vec_progress.ack.VecProgress+ID+ProgressEntryOf+C+Option+LogIdOf+C+QS.acknowledge.Goals as goal

pub returns-in_default-clause-step : goal.returns-in_default-clause-step
returns-in_default-clause-step g c = (
  lookup_absent (g.ID.PartialEq.eq c.args.id.now) c.args.self.now.entries.items (sym c.index.ensures ∙ c.in_default.is),
  refl,
)

pub invariant_of-self : goal.invariant_of-self
invariant_of-self g c =
    let p = c.args.self.now in
    let ws = p.entries.items in
    let position = c.in-Some.position in
    let e = c.index_mut-entry.result.now in
    let new = c.update_matching.new.self in
    let found = sym c.in-Some.ensures in
    let within = (position-Some (λ (f : g.row.ID.Denot × ProgressEntryOf g.row.C.Denot). g.ID.PartialEq.eq c.args.id.now f.0) ws position e
    found).0 in
    let at = slice_get_read ws (length ws) position e refl within c.index_mut-entry.ensures.value in
    record {
      voters_fit = subst (λ n. p.voter_count ≤ n) (sym (length-set ws position (e.0, new))) p.voters_fit;
      scratch_fits = p.scratch_fits;
      agree = λ fresh. rw (keys_written ws position e new at) (p.agree fresh);
    }

pub returns-in-Err-clause-step : goal.returns-in-Err-clause-step
returns-in-Err-clause-step g c =
    let p = c.args.self.now in
    let ws = p.entries.items in
    let position = c.in-Some.position in
    let e = c.index_mut-entry.result.now in
    let found = sym c.in-Some.ensures in
    let within = (position-Some (λ (f : g.row.ID.Denot × ProgressEntryOf g.row.C.Denot). g.ID.PartialEq.eq c.args.id.now f.0) ws position e
    found).0 in
    let at = slice_get_read ws (length ws) position e refl within c.index_mut-entry.ensures.value in
    let refused = refused_by _ (entry_after_ack g.C.Ord.cmp e.1 c.args.request_id c.args.matching) e.1 c.update_matching.new.self
    c.in-Err.refused c.in-Err.ensures.table in
    let same : set ws position (e.0, c.update_matching.new.self) ≡ ws =
    ap (λ (v : ProgressEntryOf g.row.C.Denot). set ws position (e.0, v)) refused.1
    ∙ ap (λ f. set ws position f) c.index_mut-entry.ensures.value ∙ set-get_or ws position e in
    (e.1, was g.met.ID.Eq.laws ws c.args.id.now position e found at, refused.0, ap (λ es. record (view p) { entries = es }) same)

pub returns-in-Err-clause-ordered : goal.returns-in-Err-clause-ordered
returns-in-Err-clause-ordered g c =
    subst (IsInOrder g.ID.PartialEq.eq (option_cmp (log_id_cmp g.C.Ord.cmp)) (λ (v : ProgressEntryOf g.row.C.Denot). v.matching)
    g.QS.QuorumSet.has_quorum) (sym (returns-in-Err-clause-step g c).3) c.requires.ordered

pub invariant_of-self-2 : goal.invariant_of-self-2
invariant_of-self-2 g c =
    let p = c.args.self.now in
    let ws = p.entries.items in
    let position = c.in-Some.position in
    let e = c.index_mut-entry.result.now in
    let new = c.update_matching.new.self in
    let found = sym c.in-Some.ensures in
    let within = (position-Some (λ (f : g.row.ID.Denot × ProgressEntryOf g.row.C.Denot). g.ID.PartialEq.eq c.args.id.now f.0) ws position e
    found).0 in
    let at = slice_get_read ws (length ws) position e refl within c.index_mut-entry.ensures.value in
    record {
      voters_fit = subst (λ n. p.voter_count ≤ n) (sym (length-set ws position (e.0, new))) p.voters_fit;
      scratch_fits = p.scratch_fits;
      agree = λ fresh. rw (keys_written ws position e new at) (p.agree fresh);
    }

pub restore_order-requires-clause-at : goal.restore_order-requires-clause-at
restore_order-requires-clause-at g c = λ f is.
    let ws = c.args.self.now.entries.items in
    let position = c.in-Some.position in
    let e = c.index_mut-entry.result.now in
    let new = c.update_matching.new.self in
    let within = (position-Some (λ (f : g.row.ID.Denot × ProgressEntryOf g.row.C.Denot). g.ID.PartialEq.eq c.args.id.now f.0) ws position e
    (sym c.in-Some.ensures)).0 in
    sym c.in_default-update_matching.ensures.matched
    ∙ ap (λ (h : g.row.ID.Denot × ProgressEntryOf g.row.C.Denot). h.1.matching)
    (sym (get_or-set_same ws position (e.0, new) f within) ∙ get_or_from_slice_get (set ws position (e.0, new)) position f f is)

pub restore_order-requires-clause-distinct : goal.restore_order-requires-clause-distinct
restore_order-requires-clause-distinct g c =
    let ws = c.args.self.now.entries.items in
    let position = c.in-Some.position in
    let e = c.index_mut-entry.result.now in
    let found = sym c.in-Some.ensures in
    let within = (position-Some (λ (f : g.row.ID.Denot × ProgressEntryOf g.row.C.Denot). g.ID.PartialEq.eq c.args.id.now f.0) ws position e
    found).0 in
    let at = slice_get_read ws (length ws) position e refl within c.index_mut-entry.ensures.value in
    subst (IsDistinct g.ID.PartialEq.eq) (sym (keys_written ws position e c.update_matching.new.self at)) c.requires.ordered.distinct

pub restore_order-requires-clause-can_count : goal.restore_order-requires-clause-can_count
restore_order-requires-clause-can_count g c = λ counts.
    let p = c.args.self.now in
    let ws = p.entries.items in
    let position = c.in-Some.position in
    let e = c.index_mut-entry.result.now in
    let value = c.update_matching.new.self in
    let cmp = option_cmp (log_id_cmp g.C.Ord.cmp) in
    let total = optional-log_id_cmp-total g.met.C.Ord.total in
    let found = sym c.in-Some.ensures in
    let within = (position-Some (λ (f : g.row.ID.Denot × ProgressEntryOf g.row.C.Denot). g.ID.PartialEq.eq c.args.id.now f.0) ws position e
    found).0 in
    let at = slice_get_read ws (length ws) position e refl within c.index_mut-entry.ensures.value in
    let written : ProgressView g.row.ID.Denot (ProgressEntryOf g.row.C.Denot) _ g.row.QS.Denot = record (view p) {
      entries = set ws position (e.0, value);
      stat = record p.stat { update_count = c.saturating_add-self.result };
    } in
    subst (CanCountOnceRisen g.ID.PartialEq.eq cmp (λ (v : ProgressEntryOf g.row.C.Denot). v.matching) g.QS.QuorumSet.is_voter written
    position) c.in_default-update_matching.ensures.matched
    (counts_once_risen g.met.ID.Eq.laws total (λ (v : ProgressEntryOf g.row.C.Denot). v.matching) g.QS.QuorumSet.has_quorum
    g.met.QS.QuorumSet.superset g.QS.QuorumSet.is_voter written ws c.requires.ordered c.args.id.now position e found
    c.index_mut-entry.ensures.value value c.update_matching.ensures.monotone refl
    (was g.met.ID.Eq.laws ws c.args.id.now position e found at) (wrote g.met.ID.Eq.laws ws c.args.id.now position e found at value)
    c.requires.voters)

pub returns : goal.returns
returns g c =
    let p = c.args.self.now in
    let ws = p.entries.items in
    let position = c.in-Some.position in
    let e = c.index_mut-entry.result.now in
    let value = c.update_matching.new.self in
    let cmp = option_cmp (log_id_cmp g.C.Ord.cmp) in
    let total = optional-log_id_cmp-total g.met.C.Ord.total in
    let found = sym c.in-Some.ensures in
    let within = (position-Some (λ (f : g.row.ID.Denot × ProgressEntryOf g.row.C.Denot). g.ID.PartialEq.eq c.args.id.now f.0) ws position e
    found).0 in
    let at = slice_get_read ws (length ws) position e refl within c.index_mut-entry.ensures.value in
    let present = was g.met.ID.Eq.laws ws c.args.id.now position e found at in
    let taken = taken_by (entry_after_ack g.C.Ord.cmp e.1 c.args.request_id c.args.matching) e.1 value _
    c.in_default-update_matching.ensures.table in
    let above = c.update_matching.ensures.monotone in
    let rises : is_lt (cmp value.matching e.1.matching) ≡ false = not_lt-from_AtMost total e.1.matching value.matching above in
    let fits : p.stat.is_quorum_count < 2 ^ 64 = omega arith in
    let written : ProgressView g.row.ID.Denot (ProgressEntryOf g.row.C.Denot) _ g.row.QS.Denot = record (view p) {
      entries = set ws position (e.0, value);
      stat = record p.stat { update_count = c.saturating_add-self.result };
    } in
    let oc = outcome g.met.ID.Eq.laws total (λ (v : ProgressEntryOf g.row.C.Denot). v.matching) g.QS.QuorumSet.has_quorum
    g.met.QS.QuorumSet.superset written (view c.restore_order.new.self) ws c.requires.ordered c.args.id.now position e found
    c.index_mut-entry.ensures.value value above refl present
    (wrote g.met.ID.Eq.laws ws c.args.id.now position e found at value) e.1.matching refl fits c.restore_order.ensures in
    record {
      step = (
        e.1,
        value,
        present,
        taken,
        record {
          values = (e.1, present, rises, oc.written, oc.ordered.counted);
          answered = record {
            refused = λ r. absurd (true≢false (sym r));
            done = λ r. record {
              counts = oc.updates ∙ c.saturating_add-self.ensures;
              same_voter_count = oc.voter_count;
              monotone = oc.monotone;
              known = λ v is.
                  let same : e.1 ≡ v = some_inside _ _ (sym present ∙ is) in (
                    value,
                    refl,
                    oc.written,
                    subst (λ (u : ProgressEntryOf g.row.C.Denot). IsSettled g.ID.PartialEq.eq cmp
                        (λ (v : ProgressEntryOf g.row.C.Denot). v.matching) (view p) c.args.id.now u
                        value (view c.restore_order.new.self)) same
                        record {
                          rises = oc.rises;
                          stays = oc.stays;
                          tests = oc.tests;
                          counts_tests = oc.counts_tests;
                          few_tests = oc.few_tests;
                          tested_to_rise = oc.tested_to_rise;
                          not_tested = oc.not_tested;
                        },
                  );
              unknown = λ none. absurd (no_value _ _ none present);
            };
            tells = refl;
          };
        },
      );
      ordered = oc.ordered;
    }
