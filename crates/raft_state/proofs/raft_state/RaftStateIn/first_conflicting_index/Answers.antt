use Rattle.std.proofs.Common.{length, sym, ◌∙◌}
use Rattle.raft_base.specs.LogView.{has_id}
use Rattle.raft_state.specs.raft_state.VoteAndLog.{log_view_of}
use Rattle.raft_state.proofs.lemmas.log.ConflictLemmas.{fails_here, passes_here, passes_all, place_fails, place_passes, place_within}
use Rattle.raft_state.proofs.raft_state.RaftStateIn.first_conflicting_index.Goals as goal

pub returns-then-not-has_entry-clause-place : goal.returns-then-not-has_entry-clause-place
returns-then-not-has_entry-clause-place g c =
    fails_here (λ e. has_id g.C.PartialEq.eq (log_view_of c.args.self.now) (g.Ent.RaftLogId.id_of e)) c.args.entries.now c.loop-place.place
    c.index-entries-place.result c.loop-place-test.true c.index-entries-place.is
    (sym c.has_entry.ensures.answer ∙ c.if-not-has_entry.true) c.loop-place.invariant.passed

pub returns-then-not-has_entry-clause-within : goal.returns-then-not-has_entry-clause-within
returns-then-not-has_entry-clause-within g c =
    place_within (λ e. has_id g.C.PartialEq.eq (log_view_of c.args.self.now)
    (g.Ent.RaftLogId.id_of e)) c.args.entries.now c.loop-place.place
    (returns-then-not-has_entry-clause-place g c)

pub returns-then-not-has_entry-clause-before : goal.returns-then-not-has_entry-clause-before
returns-then-not-has_entry-clause-before g c =
    place_passes (λ e. has_id g.C.PartialEq.eq (log_view_of c.args.self.now)
    (g.Ent.RaftLogId.id_of e)) c.args.entries.now c.loop-place.place
    (returns-then-not-has_entry-clause-place g c)

pub returns-then-not-has_entry-clause-at : goal.returns-then-not-has_entry-clause-at
returns-then-not-has_entry-clause-at g c =
    place_fails (λ e. has_id g.C.PartialEq.eq (log_view_of c.args.self.now) (g.Ent.RaftLogId.id_of e)) c.args.entries.now c.loop-place.place
    (returns-then-not-has_entry-clause-place g c)

pub loop-place-preserved : goal.loop-place-preserved
loop-place-preserved g c = record {
  passed = passes_here (λ e. has_id g.C.PartialEq.eq (log_view_of c.args.self.now) (g.Ent.RaftLogId.id_of e)) c.args.entries.now
      c.loop-place.place c.index-entries-place.result c.loop-place-test.true c.index-entries-place.is
      (sym c.has_entry.ensures.answer ∙ c.if-not-has_entry.false) c.loop-place.invariant.passed;
  range = c.has_entry.ensures.range;
}

pub returns-clause-before : goal.returns-clause-before
returns-clause-before g c =
    let xs = c.args.entries.now in
    place_passes (λ e. has_id g.C.PartialEq.eq (log_view_of c.args.self.now) (g.Ent.RaftLogId.id_of e)) xs (length xs)
    (passes_all (λ e. has_id g.C.PartialEq.eq (log_view_of c.args.self.now) (g.Ent.RaftLogId.id_of e)) xs c.loop-place.place
    c.loop-place-test.false c.loop-place.invariant.passed)

pub returns-clause-at : goal.returns-clause-at
returns-clause-at g c =
    let xs = c.args.entries.now in
    place_fails (λ e. has_id g.C.PartialEq.eq (log_view_of c.args.self.now) (g.Ent.RaftLogId.id_of e)) xs (length xs)
    (passes_all (λ e. has_id g.C.PartialEq.eq (log_view_of c.args.self.now) (g.Ent.RaftLogId.id_of e)) xs c.loop-place.place
    c.loop-place-test.false c.loop-place.invariant.passed)
