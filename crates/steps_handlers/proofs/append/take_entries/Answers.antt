use Rattle.std.proofs.Common.{ap, drop, refl, rules, sym, true≢false, ◌∙◌}
use Rattle.steps_handlers.proofs.lemmas.EntryLemmas.{slice_rest}
use Rattle.steps_handlers.proofs.lemmas.HeartbeatLemmas.{none_new}
use Rattle.steps_handlers.proofs.lemmas.RunLemmas.{plain_drop}
use Rattle.steps_handlers.proofs.lemmas.TakeLemmas.{commit_refused, commit_took, new_refused, take_rest}
use Rattle.steps_handlers.proofs.lemmas.WrittenLemmas.{entries_written}
use Rattle.steps_handlers.specs.Append.{has_entry}
use Rattle.steps_handlers.specs.Inner.Steps.{RefusesEntries}
use Rattle.raft_progress.specs.progress.Comparisons.{OrdMembers}
use Rattle.steps_handlers.proofs.append.take_entries.Goals as goal

pub append_new-requires-clause-plain : goal.append_new-requires-clause-plain
append_new-requires-clause-plain g c = λ κs lives plain.
    let place = c.first_new-place.result in
    let es = c.args.request.now.entries.items in
    let value = c.as_slice-entries.ensures.value in
    rw (slice_rest place c.as_slice-entries.result.now, value)
    (plain_drop g.C.PartialEq.eq g.met.C.Eq.laws place es (c.requires.plain plain))

pub returns-in_err-log_from-clause-refuses : goal.returns-in_err-log_from-clause-refuses
returns-in_err-log_from-clause-refuses g c =
    let ord : OrdMembers g.row.C.Denot = record {
      partial_cmp = g.C.PartialOrd.partial_cmp;
      eq = g.C.PartialEq.eq;
      cmp = g.C.Ord.cmp;
    } in
    let r = c.args.request.now in
    let s = c.args.state.now in
    let place = c.first_new-place.result in
    let rest = slice_rest place c.as_slice-entries.result.now in
    let value = c.as_slice-entries.ensures.value in
    let is = rw value at c.first_new-place.ensures.place in
    let stops = rw (rest, value) at c.in_err-log_from.ensures.stops in
    let refuses : RefusesEntries ord g.NID.PartialEq.eq g.N.PartialEq.eq r c.args.committed c.in_err-log_from.field-0.0 s
    c.append_new.new.state = record {
      refused = new_refused ord g.NID.PartialEq.eq g.N.PartialEq.eq g.met.C.Eq.laws r.prev r.entries.items c.args.committed s place is
          c.requires.prev c.requires.in_order c.append_new.new.state c.in_err-log_from.field-0.0 stops;
      needed = λ has not. stops.some (none_new (has_entry ord.eq s) place r.entries.items is has);
      rest = take_rest s c.append_new.new.state c.append_new.new.state stops.rest refl;
    } in
    search (rules, refuses)

pub returns-in_err-committed-clause-refuses : goal.returns-in_err-committed-clause-refuses
returns-in_err-committed-clause-refuses g c =
    let ord : OrdMembers g.row.C.Denot = record {
      partial_cmp = g.C.PartialOrd.partial_cmp;
      eq = g.C.PartialEq.eq;
      cmp = g.C.Ord.cmp;
    } in
    let r = c.args.request.now in
    let s = c.args.state.now in
    let place = c.first_new-place.result in
    let rest = slice_rest place c.as_slice-entries.result.now in
    let value = c.as_slice-entries.ensures.value in
    let is = rw value at c.first_new-place.ensures.place in
    let puts = rw (rest, value) at c.in_ok-log_from.ensures.puts in
    let mid = c.append_new.new.state in
    let why = c.in_err-committed.ensures.refuses in
    let stays = ap (λ t. t.committed) puts.replaced.rest in
    let refuses : RefusesEntries ord g.NID.PartialEq.eq g.N.PartialEq.eq r c.args.committed c.in_err-committed.field-0.0 s
    c.commit.new.state = record {
      refused = commit_refused ord g.NID.PartialEq.eq g.N.PartialEq.eq g.met.C.Eq.laws r.prev r.entries.items c.args.committed s place is
          c.requires.prev c.requires.in_order mid puts.replaced c.commit.new.state c.in_err-committed.field-0.0 why.err why.refused;
      needed = λ has not. true≢false (sym (rw stays at why.past) ∙ not);
      rest = take_rest s mid c.commit.new.state puts.replaced.rest (rw why.err refl);
    } in
    search (rules, refuses)

pub returns-clause-takes : goal.returns-clause-takes
returns-clause-takes g c =
    let r = c.args.request.now in
    let s = c.args.state.now in
    let place = c.first_new-place.result in
    let rest = slice_rest place c.as_slice-entries.result.now in
    let value = c.as_slice-entries.ensures.value in
    let is = rw value at c.first_new-place.ensures.place in
    let puts = rw (rest, value) at c.in_ok-log_from.ensures.puts in
    let mid = c.append_new.new.state in
    let new = c.commit.new.state in
    let commits = c.in_ok-committed.ensures.commits in
    record {
      writes = entries_written _ g.met.C.Eq.laws r.entries.items g.NID.PartialEq.eq g.N.PartialEq.eq (drop place r.entries.items) s mid new
          r.prev c.in_ok-committed.committed c.in_ok-log_from.log_from (ap (λ n. drop n r.entries.items) is) puts
          (ap (λ t. t.log_ids) commits.rest) (ap (λ t. t.committed) puts.replaced.rest) commits.risen;
      took = commit_took _ g.NID.PartialEq.eq g.N.PartialEq.eq g.met.C.Eq.laws r.prev r.entries.items c.args.committed s place is
          c.requires.prev c.requires.in_order mid puts.replaced new commits.may commits.has commits.ok;
      rest = take_rest s mid new puts.replaced.rest commits.rest;
    }
