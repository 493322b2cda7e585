use Rattle.std.proofs.Common.{◌≡◌, [], true, ap, refl, rules, sym, true≢false, ◌∙◌}
use Rattle.raft_base.specs.LogId.{index_of}
use Rattle.steps_handlers.specs.Append.{last_id_of_request, lesser_id}
use Rattle.steps_handlers.proofs.lemmas.HeartbeatLemmas.{heartbeat_took, no_entries, none_to_commit, not_past_least}
use Rattle.steps_handlers.proofs.lemmas.TakeLemmas.{conflict_cut, conflict_refused, cut_rest, disorder_refused, matched_refused}
use Rattle.steps_handlers.proofs.lemmas.WrittenLemmas.{conflict_written, matches_alike, nothing_matches}
use Rattle.steps_handlers.specs.Inner.Steps.{RefusesToMatch}
use Rattle.raft_progress.specs.progress.Comparisons.{OrdMembers}
use Rattle.raft_state.specs.log_id_list.FullLog.{full_log}
use Rattle.raft_state.specs.log_id_list.LogReads.{last_id}
use Rattle.raft_state.specs.raft_state.Sound.{purged_or_logged}
use Rattle.steps_handlers.proofs.append.match_log.Goals as goal

pub take_entries-requires-clause-plain : goal.take_entries-requires-clause-plain
take_entries-requires-clause-plain g c = λ κs lives plain. rw c.as_slice-entries.ensures.value at (c.are_plain-plain.ensures plain)

pub take_entries-requires-clause-in_order : goal.take_entries-requires-clause-in_order
take_entries-requires-clause-in_order g c = λ κs lives.
    rw c.as_slice-entries.ensures.value at (sym c.are_in_order.ensures ∙ c.if-not-are_in_order.false)

pub returns-then-not-are_in_order-clause-refuses : goal.returns-then-not-are_in_order-clause-refuses
returns-then-not-are_in_order-clause-refuses g c =
    let r = c.args.request.now in
    let not = rw c.as_slice-entries.ensures.value at (sym c.are_in_order.ensures ∙ c.if-not-are_in_order.true) in
    record {
      refuses = disorder_refused _ g.NID.PartialEq.eq g.N.PartialEq.eq g.met.C.Eq.laws r.prev r.entries.items
          (lesser_id g.C.Ord.cmp r.committed (last_id_of_request r.prev r.entries.items)) c.args.state.now not;
      needed = λ nothing. true≢false (sym nothing.in_order ∙ not);
      rest = refl;
    }

pub returns-in_err-log_from-clause-refuses : goal.returns-in_err-log_from-clause-refuses
returns-in_err-log_from-clause-refuses g c =
    let ord : OrdMembers g.row.C.Denot = record {
      partial_cmp = g.C.PartialOrd.partial_cmp;
      eq = g.C.PartialEq.eq;
      cmp = g.C.Ord.cmp;
    } in
    let r = c.args.request.now in
    let s = c.args.state.now in
    let refuses : RefusesToMatch ord g.NID.PartialEq.eq g.N.PartialEq.eq r c.in_err-log_from.field-0.0 s c.cut.new.state = record {
      refuses = conflict_refused ord g.NID.PartialEq.eq g.N.PartialEq.eq g.met.C.Eq.laws r.prev r.entries.items
          (lesser_id g.C.Ord.cmp r.committed (last_id_of_request r.prev r.entries.items)) s c.cut.new.state c.in-Some.at
          c.in_err-log_from.field-0.0 c.in-Some.ensures.conflict c.in_err-log_from.ensures.err
          c.in_err-log_from.ensures.refused;
      needed = λ nothing. true≢false (sym nothing.has_prev ∙ c.in-Some.ensures.conflict.1);
      rest = rw c.in_err-log_from.ensures.err refl;
    } in
    search (rules, refuses)

pub returns-in-Some-clause-matches : goal.returns-in-Some-clause-matches
returns-in-Some-clause-matches g c =
    let r = c.args.request.now in
    let s = c.args.state.now in
    let new = c.cut.new.state in
    let order = rw c.as_slice-entries.ensures.value at (sym c.are_in_order.ensures ∙ c.if-not-are_in_order.false) in
    let cut = c.in_ok-log_from.ensures.cut in
    let last : c.index-last.result ≡ index_of (last_id (full_log new.log_ids)) =
    rw (c.copied.ensures ∙ c.last_log_id.ensures) at c.index-last.ensures in
    record {
      followed = tt;
      answers = (conflict_cut _ c.in-Some.at r.prev r.entries.items s new order c.in-Some.ensures.conflict cut, last);
      writes = rw c.none.ensures (conflict_written _ g.met.C.Eq.laws r.entries.items g.met.C.Ord.total c.in-Some.at _
          c.in_ok-log_from.log_from s new c.in_ok-log_from.ensures.truncated cut);
      rest = cut_rest s new cut.rest;
    }

pub returns-then-same_optional_log_ids-clause-matches : goal.returns-then-same_optional_log_ids-clause-matches
returns-then-same_optional_log_ids-clause-matches g c =
    let r = c.args.request.now in
    let s = c.args.state.now in
    let none : r.entries.items ≡ [] =
    no_entries r.entries.items (rw c.as_slice-entries.ensures.value at (sym c.is_empty-has_none.ensures ∙ c.if-has_none.true)) in
    let has : purged_or_logged g.C.PartialEq.eq s r.prev ≡ true = search rules in
    let not = none_to_commit g.C.Ord.cmp g.met.C.Ord.total g.C.PartialEq.eq g.met.C.Ord.matches_eq r.committed
    (last_id_of_request r.prev r.entries.items) s.committed (sym c.same_optional_log_ids.ensures ∙ c.if-same_optional_log_ids.true) in
    record {
      followed = tt;
      answers = (
        rw none refl,
        heartbeat_took _ g.NID.PartialEq.eq g.N.PartialEq.eq g.met.C.Eq.laws r.prev r.entries.items
            (lesser_id g.C.Ord.cmp r.committed (last_id_of_request r.prev r.entries.items)) s none has not,
      );
      writes = rw c.none-then-same_optional_log_ids.ensures
          (nothing_matches _ g.met.C.Eq.laws r.entries.items g.met.C.Ord.total r.prev s none);
      rest = refl;
    }

pub returns-in_err-changes-clause-refuses : goal.returns-in_err-changes-clause-refuses
returns-in_err-changes-clause-refuses g c =
    let ord : OrdMembers g.row.C.Denot = record {
      partial_cmp = g.C.PartialOrd.partial_cmp;
      eq = g.C.PartialEq.eq;
      cmp = g.C.Ord.cmp;
    } in
    let r = c.args.request.now in
    let s = c.args.state.now in
    let new = c.take_entries.new.state in
    let last = last_id_of_request r.prev r.entries.items in
    let id : c.lesser_id-committed.result ≡ lesser_id g.C.Ord.cmp r.committed last =
    rw c.last_log_id-last.ensures at c.lesser_id-committed.ensures in
    let has : purged_or_logged g.C.PartialEq.eq s r.prev ≡ true = search rules in
    let why = rw id at c.in_err-changes.ensures.refuses in
    let refuses : RefusesToMatch ord g.NID.PartialEq.eq g.N.PartialEq.eq r c.in_err-changes.field-0.0 s new = record {
      refuses = matched_refused ord g.NID.PartialEq.eq g.N.PartialEq.eq r.prev r.entries.items
          (lesser_id g.C.Ord.cmp r.committed last) s new c.in_err-changes.field-0.0 has why.refused;
      needed = λ nothing. why.needed nothing.has_entries
          (not_past_least g.C.Ord.cmp g.met.C.Ord.total r.committed last s.committed nothing.committed);
      rest = why.rest;
    } in
    search (rules, refuses)

pub returns-clause-matches : goal.returns-clause-matches
returns-clause-matches g c =
    let r = c.args.request.now in
    let s = c.args.state.now in
    let id : c.lesser_id-committed.result ≡ lesser_id g.C.Ord.cmp r.committed (last_id_of_request r.prev r.entries.items) =
    rw c.last_log_id-last.ensures at c.lesser_id-committed.ensures in
    let takes = rw id at c.in_ok-changes.ensures.takes in
    record {
      followed = tt;
      answers = (c.last_log_id-last.ensures, takes.took);
      writes = matches_alike _ g.met.C.Eq.laws r.entries.items r.prev c.last_log_id-last.result c.in_ok-changes.changes
          s c.take_entries.new.state takes.writes;
      rest = takes.rest;
    }
