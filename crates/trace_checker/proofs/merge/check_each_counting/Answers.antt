use Rattle.std.proofs.Common.{◌≡◌, ◌<◌, ◌∙◌, [], length, ap, arith}
use Rattle.std.proofs.lemmas.List.{length-replicate, with_items_is}
use Rattle.trace_checker.specs.Checker.{tests_when}
use Rattle.trace_checker.proofs.lemmas.MergeLemmas.{all_placed, left, next_seen, none_seen, placed_less}
use Rattle.trace_checker.proofs.lemmas.CountedLemmas.{trace_is_safe}
use Rattle.trace_checker.proofs.merge.check_each_counting.Goals as goal

pub loop-checker-init : goal.loop-checker-init
loop-checker-init g c =
    let items = c.in-Ok.ensures.items_if_clones_equal (λ y e. e) in
    record {
      configs = c.in-Ok-counting.ensures.ok;
      counting = c.in-Ok-counting.ensures.counting;
      counts = ap length items ∙ length-replicate (length c.args.lists.now) 0;
      seen = λ exact. ([], c.in-Ok-counting.ensures.begins, items);
    }

pub record_next-requires : goal.record_next-requires
record_next-requires g c = rw c.deref_mut.ensures.value c.loop-checker.invariant.counts

pub loop-checker-smaller : goal.loop-checker-smaller
loop-checker-smaller g c =
    let less = placed_less (c.in-Ok-true.ensures.more c.in-Ok-true.field-0-test) in
    let less_now : left c.args.lists.now c.record_next.new.placed < left c.args.lists.now c.loop-checker.placed.items =
    rw c.deref_mut.ensures.value at less in
    let items = with_items_is c.loop-checker.placed c.record_next.new.placed (omega arith) in
    rw items less_now

pub loop-checker-preserved : goal.loop-checker-preserved
loop-checker-preserved g c =
    let items = with_items_is c.loop-checker.placed c.record_next.new.placed (omega arith) in
    record {
      configs = c.in-Ok-true.ensures.configs ∙ c.loop-checker.invariant.configs;
      counting = c.in-Ok-true.ensures.counting ∙ c.loop-checker.invariant.counting;
      counts = rw items (c.record_next.auto.placed ∙ rw c.deref_mut.ensures.value c.loop-checker.invariant.counts);
      seen = λ exact. rw items (next_seen
          (λ w x. tests_when w (record { eq = g.T.PartialEq.eq; rank = g.T.Term.rank }) g.N.PartialEq g.D.PartialEq
          g.C.Configs x)
          c.args.counting c.args.configs c.args.lists.now c.loop-checker.placed.items c.deref_mut.result.now c.record_next.new.placed
          c.loop-checker.checker c.record_next.new.checker c.loop-checker.invariant.counting c.loop-checker.invariant.configs
          c.deref_mut.ensures.value exact
          (rw c.in-Ok-true.field-0-test at c.in-Ok-true.ensures.records) (c.loop-checker.invariant.seen exact));
    }

pub returns-in-Ok-false-clause-safe : goal.returns-in-Ok-false-clause-safe
returns-in-Ok-false-clause-safe g c = λ exact.
    let before = c.loop-checker.invariant.seen exact in
    let ended = rw c.deref_mut.ensures.value at (c.in-Ok-false.ensures.ended c.in-Ok-false.field-0-test).1 in
    record {
      trace = before.0;
      interleaves = all_placed c.args.lists.now c.loop-checker.placed.items before.0 before.2 ended;
      allowed = before.1.seen.allowed;
      safe = λ ranks. trace_is_safe _ exact before.0 ranks before.1.seen.allowed;
    }

pub returns-in-Err-record_next-clause-refused : goal.returns-in-Err-record_next-clause-refused
returns-in-Err-record_next-clause-refused g c = λ exact.
    let items = with_items_is c.loop-checker.placed c.record_next.new.placed (omega arith) in
    let same : c.record_next.new.placed ≡ c.loop-checker.placed.items =
    c.in-Err-record_next.ensures.same ∙ c.deref_mut.ensures.value in
    rw (items, same) (none_seen
    (λ w x. tests_when w (record { eq = g.T.PartialEq.eq; rank = g.T.Term.rank }) g.N.PartialEq g.D.PartialEq
    g.C.Configs x)
    c.args.counting c.args.configs c.args.lists.now c.loop-checker.placed.items c.deref_mut.result.now c.record_next.new.placed
    c.loop-checker.checker c.record_next.new.checker c.loop-checker.invariant.counting c.loop-checker.invariant.configs
    c.deref_mut.ensures.value exact
    (c.in-Err-record_next.list, c.in-Err-record_next.violation) c.in-Err-record_next.ensures.records
    c.in-Err-record_next.ensures.same (c.loop-checker.invariant.seen exact))
