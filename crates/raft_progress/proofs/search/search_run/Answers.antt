use Rattle.std.proofs.Common.{arith, ◌∙◌}
use Rattle.raft_progress.proofs.lemmas.search.SearchKeepsLemmas.{kept_at_end}
use Rattle.raft_progress.proofs.lemmas.search.SearchLemmas.{accepted_at_end, next_event, within_digits, within_near_digits, within_one_more}
use Rattle.raft_progress.proofs.search.search_run.Goals as goal

pub loop-event-preserved : goal.loop-event-preserved
loop-event-preserved g c = record {
  small = omega (arith, c.run_event.ensures.one_at_most, c.loop-event.invariant.small);
  same_end = next_event g.C.Ord.cmp g.L.LogStateReader.log_view _ _ c.args.events.now c.loop-event.event-index c.event-item.result
      c.loop-event-test.true c.event-item.is c.run_event.ensures.taken ∙ c.loop-event.invariant.same_end;
}

pub returns-clause-digits : goal.returns-clause-digits
returns-clause-digits g c can k fits =
    rw (accepted_at_end g.C.Ord.cmp g.L.LogStateReader.log_view _ _ c.args.events.now c.loop-event.event-index c.loop-event-test.false
    c.loop-event.invariant.same_end)
    (within_digits g.C.Ord.cmp g.L.LogStateReader.log_view g.met.L.LogStateReader.indexed c.args.entry.now c.args.events.now can k fits)

pub returns-clause-near_digits : goal.returns-clause-near_digits
returns-clause-near_digits g c can none k fits =
    rw (accepted_at_end g.C.Ord.cmp g.L.LogStateReader.log_view _ _ c.args.events.now c.loop-event.event-index c.loop-event-test.false
    c.loop-event.invariant.same_end)
    (within_near_digits g.C.Ord.cmp g.L.LogStateReader.log_view g.met.L.LogStateReader.indexed c.args.entry.now c.args.events.now can none k
    fits)

pub returns-clause-one_more : goal.returns-clause-one_more
returns-clause-one_more g c can k fits =
    rw (accepted_at_end g.C.Ord.cmp g.L.LogStateReader.log_view _ _ c.args.events.now c.loop-event.event-index c.loop-event-test.false
    c.loop-event.invariant.same_end)
    (within_one_more g.C.Ord.cmp g.L.LogStateReader.log_view g.met.L.LogStateReader.indexed c.args.entry.now c.args.events.now can k fits)

pub returns-clause-matching : goal.returns-clause-matching
returns-clause-matching g c =
    (kept_at_end g.C.Ord.cmp g.L.LogStateReader.log_view _ _ c.args.events.now c.loop-event.event-index c.loop-event-test.false
    c.loop-event.invariant.same_end).matching

pub returns-clause-end : goal.returns-clause-end
returns-clause-end g c =
    (kept_at_end g.C.Ord.cmp g.L.LogStateReader.log_view _ _ c.args.events.now c.loop-event.event-index c.loop-event-test.false
    c.loop-event.invariant.same_end).end

pub returns-clause-within : goal.returns-clause-within
returns-clause-within g c =
    (kept_at_end g.C.Ord.cmp g.L.LogStateReader.log_view _ _ c.args.events.now c.loop-event.event-index c.loop-event-test.false
    c.loop-event.invariant.same_end).within
