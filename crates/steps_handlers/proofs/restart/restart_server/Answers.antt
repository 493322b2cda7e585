use Rattle.std.proofs.Common.{◌≡◌, drop, ap, rules, sym}
use Rattle.steps_handlers.proofs.lemmas.EntryLemmas.{slice_rest}
use Rattle.steps_handlers.proofs.lemmas.UnacceptedLemmas.{unaccepted_sound}
use Rattle.steps_handlers.proofs.lemmas.RestartLemmas.{restart_not_committed, restart_refused, restores}
use Rattle.steps_handlers.specs.Restart.{entries_past}
use Rattle.raft_progress.specs.progress.Comparisons.{OrdMembers}
use Rattle.raft_state.specs.Accepted.{last_accepted}
use Rattle.steps_handlers.proofs.restart.restart_server.Goals as goal

pub returns-clause-sound : goal.returns-clause-sound
returns-clause-sound g c =
    unaccepted_sound g.L.Committed.Ord.cmp g.L.Committed.PartialEq.eq c.commit_known.new.state _ _ (ap last_accepted c.new-state.ensures)
    (c.in_ok-commit_known.ensures.sound (c.in_ok-commit.ensures.sound (c.in_ok-append_new.ensures.sound c.in_ok-state.ensures.sound)))

pub returns-in_err-append_new-clause-refused : goal.returns-in_err-append_new-clause-refused
returns-in_err-append_new-clause-refused g c =
    let ord : OrdMembers g.row.L-Committed.Denot = record {
      partial_cmp = g.L.Committed.PartialOrd.partial_cmp;
      eq = g.L.Committed.PartialEq.eq;
      cmp = g.L.Committed.Ord.cmp;
    } in
    let meta = c.args.stored.now.snapshot in
    let stored = c.args.stored.now.entries.items in
    let place = c.first_past-place.result in
    let items = c.deref-2.result.now in
    let rest = slice_rest place items in
    let past : drop place items ≡ entries_past ord.eq meta.last_log_id stored =
    rw c.deref-2.ensures.value (rw c.deref.ensures.value at c.first_past-place.ensures.past) in
    let stops = rw rest at c.in_err-append_new.ensures.stops in
    let reason = restart_refused g.NID.PartialEq.eq g.N.PartialEq.eq ord meta c.in_ok-state.state c.in_ok-state.ensures.snapshot stored
    (drop place items) (sym past) c.args.stored.now.committed c.in_err-append_new.field-0.0
    stops.refused in
    search (rules, reason)

pub returns-in_err-commit-clause-refused : goal.returns-in_err-commit-clause-refused
returns-in_err-commit-clause-refused g c =
    let ord : OrdMembers g.row.L-Committed.Denot = record {
      partial_cmp = g.L.Committed.PartialOrd.partial_cmp;
      eq = g.L.Committed.PartialEq.eq;
      cmp = g.L.Committed.Ord.cmp;
    } in
    let meta = c.args.stored.now.snapshot in
    let stored = c.args.stored.now.entries.items in
    let place = c.first_past-place.result in
    let items = c.deref-2.result.now in
    let rest = slice_rest place items in
    let past : drop place items ≡ entries_past ord.eq meta.last_log_id stored =
    rw c.deref-2.ensures.value (rw c.deref.ensures.value at c.first_past-place.ensures.past) in
    let puts = rw rest at c.in_ok-append_new.ensures.puts in
    let reason = restart_not_committed g.NID.PartialEq.eq g.N.PartialEq.eq ord meta c.in_ok-state.state c.in_ok-state.ensures.snapshot
    stored (drop place items) (sym past) c.args.stored.now.committed g.met.L.Committed.Eq.laws c.append_new.new.state
    puts.replaced c.in_err-commit.field-0.0 c.in_err-commit.ensures.refuses.refused in
    search (rules, reason)

pub returns-clause-restores : goal.returns-clause-restores
returns-clause-restores g c =
    let ord : OrdMembers g.row.L-Committed.Denot = record {
      partial_cmp = g.L.Committed.PartialOrd.partial_cmp;
      eq = g.L.Committed.PartialEq.eq;
      cmp = g.L.Committed.Ord.cmp;
    } in
    let meta = c.args.stored.now.snapshot in
    let stored = c.args.stored.now.entries.items in
    let place = c.first_past-place.result in
    let items = c.deref-2.result.now in
    let rest = slice_rest place items in
    let past : drop place items ≡ entries_past ord.eq meta.last_log_id stored =
    rw c.deref-2.ensures.value (rw c.deref.ensures.value at c.first_past-place.ensures.past) in
    let puts = rw rest at c.in_ok-append_new.ensures.puts in
    let r = restores g.NID.PartialEq.eq g.N.PartialEq.eq ord meta c.in_ok-state.state c.in_ok-state.ensures.snapshot
    stored (drop place items) (sym past) c.args.stored.now.committed g.met.L.Committed.Eq.laws c.append_new.new.state
    puts.replaced c.commit.new.state c.commit_known.new.state c.in_ok-commit.ensures.commits.may c.in_ok-commit.ensures.commits.ok
    c.in_ok-commit_known.ensures.known c.commit_known.ensures.rest in
    let known = r.committed.2 in
    record {
      log = r.log;
      purge_point = r.purge_point;
      purged = r.purged;
      snapshot = r.snapshot;
      allowed = r.allowed;
      committed = (r.committed.0, r.committed.1, record { known = known.known; memberships = known.memberships });
    }
