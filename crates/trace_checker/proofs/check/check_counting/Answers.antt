use Rattle.std.proofs.Common.{◌≡◌, ◌<◌, ◌∙◌, Err, Ok, length, take, inr, arith}
use Rattle.std.proofs.lemmas.List.{take_all}
use Rattle.trace_checker.specs.Checker.{event_of, tests_when, trace_of}
use Rattle.trace_checker.proofs.lemmas.CheckerCodeLemmas.{records_by, trace_more}
use Rattle.trace_checker.proofs.lemmas.CountedLemmas.{trace_is_safe}
use Rattle.trace_checker.proofs.check.check_counting.Goals as goal

pub loop-i-preserved : goal.loop-i-preserved
loop-i-preserved g c =
    let within : c.loop-i.i < length c.args.events.now = omega arith in
    record {
      same = c.in-Ok-record.ensures.configs ∙ c.loop-i.invariant.same;
      counting = c.in-Ok-record.ensures.counting ∙ c.loop-i.invariant.counting;
      seen = λ exact. rw (trace_more c.args.events.now c.loop-i.i c.index-events-i.result within
          c.index-events-i.is)
          (records_by
          (λ w x. tests_when w (record { eq = g.T.PartialEq.eq; rank = g.T.Term.rank }) g.N.PartialEq g.D.PartialEq g.C.Configs x)
          (event_of c.index-events-i.result) c.loop-i.checker c.record.new.self (Ok tt)
          c.args.counting c.args.configs c.loop-i.invariant.counting c.loop-i.invariant.same c.in-Ok-record.ensures.answer exact
          (trace_of (take c.loop-i.i c.args.events.now)) (c.loop-i.invariant.seen exact)).1;
    }

pub returns-in-Err-record-clause-refused : goal.returns-in-Err-record-clause-refused
returns-in-Err-record-clause-refused g c =
    let within : c.loop-i.i < length c.args.events.now = omega arith in
    λ exact. inr (
      c.index-events-i.result,
      within,
      c.index-events-i.is,
      (c.loop-i.invariant.seen exact).seen.allowed,
      (records_by
          (λ w x. tests_when w (record { eq = g.T.PartialEq.eq; rank = g.T.Term.rank }) g.N.PartialEq g.D.PartialEq g.C.Configs x)
          (event_of c.index-events-i.result) c.loop-i.checker c.record.new.self (Err c.in-Err-record.violation)
          c.args.counting c.args.configs c.loop-i.invariant.counting c.loop-i.invariant.same c.in-Err-record.ensures.answer exact
          (trace_of (take c.loop-i.i c.args.events.now)) (c.loop-i.invariant.seen exact)).0,
    )

pub returns-clause-allowed : goal.returns-clause-allowed
returns-clause-allowed g c =
    let whole : take c.loop-i.i c.args.events.now ≡ c.args.events.now =
    take_all c.loop-i.i c.args.events.now (omega arith) in
    λ exact. rw whole at (c.loop-i.invariant.seen exact).seen.allowed

pub returns-clause-safe : goal.returns-clause-safe
returns-clause-safe g c =
    let whole : take c.loop-i.i c.args.events.now ≡ c.args.events.now =
    take_all c.loop-i.i c.args.events.now (omega arith) in
    λ exact ranks. trace_is_safe _ exact (trace_of c.args.events.now) ranks
    (rw whole at (c.loop-i.invariant.seen exact).seen.allowed)
