use Rattle.std.proofs.Common.{arith, sym, ap, ◌∙◌, refl, subst, ◌≡◌, ◌<◌, ◌≤◌, ◌^◌, get_or, length, set}
use Rattle.std.specs.Option.{is_some}
use Rattle.std.proofs.Math.ListN.{length-set}
use Rattle.std.specs.List.{IsDistinct}
use Rattle.std.specs.Map.{keys_of}
use Rattle.raft_progress.proofs.lemmas.progress.positions.PositionsLemmas.{keys_written}
use Rattle.std.proofs.lemmas.List.{get_or-set_same}
use Rattle.std.proofs.lemmas.List.Quantifiers.{position-Some}
use Rattle.std.proofs.lemmas.Option.{get_or_from_slice_get, slice_get_read}
use Rattle.raft_progress.proofs.lemmas.progress.entries.EntriesLemmas.{lookup_absent, no_value}
use Rattle.raft_progress.proofs.lemmas.progress.UpdateLemmas.{was, wrote}
use Rattle.raft_progress.proofs.lemmas.progress.OutcomeLemmas.{outcome}
use Rattle.raft_progress.proofs.lemmas.OrderLemmas.{AtMost-refl}
use Rattle.raft_progress.specs.Inner.Placed.{IsWrittenAt}
use Rattle.raft_progress.specs.progress.Lends.{Leaves}
use Rattle.raft_progress.specs.progress.Updated.{IsSettled}
use Rattle.raft_progress.specs.progress.VecProgress.{view}
use Rattle.raft_progress.proofs.lemmas.ListLemmas.{some_inside}
use Rattle.raft_progress.proofs.progress.vec_progress.VecProgress.apply.Goals as goal

pub f-requires : goal.f-requires
f-requires g c =
    let ws = c.args.self.now.entries.items in
    let e = c.index_mut-entry.result.now in
    let found = sym c.in-Some.ensures in
    let is_id = λ (d : g.row.ID.Denot × g.row.V.Denot). g.ID.PartialEq.eq c.args.id.now d.0 in
    let within = (position-Some is_id ws c.in-Some.position e found).0 in
    let at = slice_get_read ws (length ws) c.in-Some.position e refl within c.index_mut-entry.ensures.value in
    c.requires.callable e.1 (was g.met.ID.Eq.laws ws c.args.id.now c.in-Some.position e found at) _ refl

pub invariant_of-self-in-Some : goal.invariant_of-self-in-Some
invariant_of-self-in-Some g c =
    let e = c.index_mut-entry.result.now in
    let is_id = λ (d : g.row.ID.Denot × g.row.V.Denot). g.ID.PartialEq.eq c.args.id.now d.0 in
    let inside = (position-Some is_id c.args.self.now.entries.items c.in-Some.position e (sym c.in-Some.ensures)).0 in
    let at = slice_get_read c.args.self.now.entries.items (length c.args.self.now.entries.items) c.in-Some.position e refl inside
    c.index_mut-entry.ensures.value in
    let h : IsWrittenAt g.V.ProgressPart.part_of (Leaves g.F.FnOnce c.args.f) c.in-Some.position c.args.self.now.entries.items
    (set c.args.self.now.entries.items c.in-Some.position (e.0, c.f.new.arg2)) c.part-before.result c.part-after.result = (
      e,
      c.f.new.arg2,
      at,
      record { shown = _; shows = refl; left = _; met = c.f.ensures; leaves = refl },
      refl,
      c.part-before.ensures,
      c.part-after.ensures,
    ) in
    let same = ap keys_of h.4 ∙ keys_written c.args.self.now.entries.items c.in-Some.position h.0 h.1 h.2 in
    record {
      voters_fit = subst (λ n. c.args.self.now.voter_count ≤ n)
          (sym (ap length h.4 ∙ length-set c.args.self.now.entries.items c.in-Some.position (h.0.0, h.1))) c.args.self.now.voters_fit;
      scratch_fits = c.args.self.now.scratch_fits;
      agree = λ fresh. rw same (c.args.self.now.agree fresh);
    }

pub restore_order-requires-clause-at : goal.restore_order-requires-clause-at
restore_order-requires-clause-at g c = λ f is.
    let e = c.index_mut-entry.result.now in
    let is_id = λ (d : g.row.ID.Denot × g.row.V.Denot). g.ID.PartialEq.eq c.args.id.now d.0 in
    let inside = (position-Some is_id c.args.self.now.entries.items c.in-Some.position e (sym c.in-Some.ensures)).0 in
    let at = slice_get_read c.args.self.now.entries.items (length c.args.self.now.entries.items) c.in-Some.position e refl inside
    c.index_mut-entry.ensures.value in
    let h : IsWrittenAt g.V.ProgressPart.part_of (Leaves g.F.FnOnce c.args.f) c.in-Some.position c.args.self.now.entries.items
    (set c.args.self.now.entries.items c.in-Some.position (e.0, c.f.new.arg2)) c.part-before.result c.part-after.result = (
      e,
      c.f.new.arg2,
      at,
      record { shown = _; shows = refl; left = _; met = c.f.ensures; leaves = refl },
      refl,
      c.part-before.ensures,
      c.part-after.ensures,
    ) in
    let ws = c.args.self.now.entries.items in
    let position = c.in-Some.position in
    let is_id = λ (e : g.row.ID.Denot × g.row.V.Denot). g.ID.PartialEq.eq c.args.id.now e.0 in
    let within = (position-Some is_id ws position h.0 (sym c.in-Some.ensures)).0 in
    h.6
    ∙ ap (λ (e : g.row.ID.Denot × g.row.V.Denot). g.V.ProgressPart.part_of e.1)
    (sym (get_or-set_same ws position (h.0.0, h.1) f within)
    ∙ get_or_from_slice_get (set ws position (h.0.0, h.1)) position f f (rw h.4 at is))

pub restore_order-requires-clause-distinct : goal.restore_order-requires-clause-distinct
restore_order-requires-clause-distinct g c =
    let e = c.index_mut-entry.result.now in
    let is_id = λ (d : g.row.ID.Denot × g.row.V.Denot). g.ID.PartialEq.eq c.args.id.now d.0 in
    let inside = (position-Some is_id c.args.self.now.entries.items c.in-Some.position e (sym c.in-Some.ensures)).0 in
    let at = slice_get_read c.args.self.now.entries.items (length c.args.self.now.entries.items) c.in-Some.position e refl inside
    c.index_mut-entry.ensures.value in
    let h : IsWrittenAt g.V.ProgressPart.part_of (Leaves g.F.FnOnce c.args.f) c.in-Some.position c.args.self.now.entries.items
    (set c.args.self.now.entries.items c.in-Some.position (e.0, c.f.new.arg2)) c.part-before.result c.part-after.result = (
      e,
      c.f.new.arg2,
      at,
      record { shown = _; shows = refl; left = _; met = c.f.ensures; leaves = refl },
      refl,
      c.part-before.ensures,
      c.part-after.ensures,
    ) in
    subst (IsDistinct g.ID.PartialEq.eq) (sym (ap keys_of h.4 ∙ keys_written c.args.self.now.entries.items c.in-Some.position h.0 h.1 h.2))
    c.requires.ordered.distinct

pub returns-in-Some : goal.returns-in-Some
returns-in-Some g c =
    let e = c.index_mut-entry.result.now in
    let is_id = λ (d : g.row.ID.Denot × g.row.V.Denot). g.ID.PartialEq.eq c.args.id.now d.0 in
    let inside = (position-Some is_id c.args.self.now.entries.items c.in-Some.position e (sym c.in-Some.ensures)).0 in
    let at = slice_get_read c.args.self.now.entries.items (length c.args.self.now.entries.items) c.in-Some.position e refl inside
    c.index_mut-entry.ensures.value in
    let h : IsWrittenAt g.V.ProgressPart.part_of (Leaves g.F.FnOnce c.args.f) c.in-Some.position c.args.self.now.entries.items
    (set c.args.self.now.entries.items c.in-Some.position (e.0, c.f.new.arg2)) c.part-before.result c.part-after.result = (
      e,
      c.f.new.arg2,
      at,
      record { shown = _; shows = refl; left = _; met = c.f.ensures; leaves = refl },
      refl,
      c.part-before.ensures,
      c.part-after.ensures,
    ) in
    let ws = c.args.self.now.entries.items in
    let found = sym c.in-Some.ensures in
    let here : h.0 ≡ get_or ws c.in-Some.position h.0 = sym (get_or_from_slice_get ws c.in-Some.position h.0 h.0 h.2) in
    let fits : c.args.self.now.stat.is_quorum_count < 2 ^ 64 = omega arith in
    let before = was g.met.ID.Eq.laws ws c.args.id.now c.in-Some.position h.0 found h.2 in
    let oc = outcome g.met.ID.Eq.laws g.met.P.Ord.total g.V.ProgressPart.part_of g.QS.QuorumSet.has_quorum g.met.QS.QuorumSet.superset _
    (view c.restore_order.new.self) ws c.requires.ordered c.args.id.now c.in-Some.position h.0 found here h.1
    (c.requires.monotone h.0.1 h.1 before h.3) h.4 before
    (h.4 ∙ wrote g.met.ID.Eq.laws ws c.args.id.now c.in-Some.position h.0 found h.2 h.1) c.part-before.result h.5
    fits c.restore_order.ensures in
    record {
      updated = record {
        counts = oc.updates ∙ c.saturating_add-self.ensures;
        same_voter_count = oc.voter_count;
        monotone = oc.monotone;
        known = λ v e.
            let same : h.0.1 ≡ v = some_inside _ _ (sym before ∙ e) in (
              h.1,
              rw (← same) h.3,
              oc.written,
              subst (λ (v : g.row.V.Denot). IsSettled g.ID.PartialEq.eq g.P.Ord.cmp g.V.ProgressPart.part_of (view c.args.self.now)
                  c.args.id.now v h.1 (view c.restore_order.new.self)) same
                  record {
                    rises = oc.rises;
                    stays = oc.stays;
                    tests = oc.tests;
                    counts_tests = oc.counts_tests;
                    few_tests = oc.few_tests;
                    tested_to_rise = oc.tested_to_rise;
                    not_tested = oc.not_tested;
                  },
            );
        unknown = λ e. absurd (no_value _ _ e before);
      };
      ordered = oc.ordered;
      known = sym (ap is_some before);
    }

pub returns-in-None : goal.returns-in-None
returns-in-None g c =
    let gone = lookup_absent (g.ID.PartialEq.eq c.args.id.now) c.args.self.now.entries.items (sym c.in-None.ensures) in
    record {
      updated = record {
        counts = c.saturating_add-self.ensures;
        same_voter_count = refl;
        monotone = AtMost-refl g.met.P.Ord.total c.args.self.now.granted;
        known = λ v e. absurd (no_value _ _ gone e);
        unknown = λ e. ap (λ n. record (view c.args.self.now) { stat = record c.args.self.now.stat { update_count = n } })
            c.saturating_add-self.ensures;
      };
      ordered = c.requires.ordered;
      known = sym (ap is_some gone);
    }
