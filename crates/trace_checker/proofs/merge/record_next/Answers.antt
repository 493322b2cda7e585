use Rattle.std.proofs.Common.{◌≡◌, ◌+◌, ◌≤◌, ◌∙◌, ℕ, Err, List, Ok, Some, length, get_or, set, slice_get, true, false, refl, sym, ap, inl, inr, arith}
use Rattle.std.proofs.lemmas.Bool.{both_ways}
use Rattle.std.proofs.lemmas.Option.{slice_get-get_or, slice_get_read}
use Rattle.trace_checker.specs.Checker.{event_of, tests_when}
use Rattle.trace_checker.proofs.lemmas.CheckerCodeLemmas.{records_by}
use Rattle.trace_checker.proofs.lemmas.MergeLemmas.{all_ended, all_tried, ended_more, next_read, none_tried, or_some, tried_ended, tried_refused}
use Rattle.trace_checker.proofs.merge.record_next.Goals as goal
use Rattle.trace_checker.proofs.merge.record_next.Goals.{then-placed-i+in-Err-Rule, else-placed-i}

pub loop-i-init : goal.loop-i-init
loop-i-init g c = record {
  configs = refl;
  counting = refl;
  placed = refl;
  ended = λ e j n l h. absurd (omega arith);
  tried = λ exact es seen. (seen, none_tried _ _ _ es);
}

pub loop-i-preserved : goal.loop-i-preserved
loop-i-preserved g c =
    elim c.if-placed-i.branch [
      | then-placed-i+in-Err-Rule w ↦ record {
        configs = rw w.checker-is (w.in-Err-Rule.ensures.configs ∙ c.loop-i.invariant.configs);
        counting = rw w.checker-is (w.in-Err-Rule.ensures.counting ∙ c.loop-i.invariant.counting);
        placed = c.loop-i.invariant.placed;
        ended = λ none. absurd (or_some c.loop-i.refused (c.loop-i.i, w.in-Err-Rule.rule)
            (sym w.or-refused.ensures ∙ (sym w.refused-is ∙ none)));
        tried = λ exact es seen.
            let next =
            next_read c.args.lists.now c.args.placed.now c.loop-i.placed c.loop-i.i c.index-lists-i.result w.index.result.now
            (omega arith) c.requires c.loop-i.invariant.placed c.index-lists-i.is (omega arith) w.index.ensures in
            let before = c.loop-i.invariant.tried exact es seen in
            let answer =
            (rw w.in-Err-Rule.field-0-is at (records_by
            (λ v x. tests_when v (record { eq = g.T.PartialEq.eq; rank = g.T.Term.rank }) g.N.PartialEq g.D.PartialEq g.C.Configs x)
            (event_of w.index.result.now) c.loop-i.checker w.record.new.self (Err w.in-Err-Rule.field-0)
            c.args.checker.now.counting c.args.checker.now.configs c.loop-i.invariant.counting c.loop-i.invariant.configs
            w.in-Err-Rule.ensures.answer)) exact es before.0 in (
              rw w.checker-is answer.1,
              tried_refused _ _ _ es c.loop-i.i _ w.index.result.now w.in-Err-Rule.rule c.loop-i.refused c.if-placed-i.refused
                  before.1 c.loop-i.invariant.ended next answer.0 (w.refused-is ∙ w.or-refused.ensures),
            );
      }
      | else-placed-i w ↦
          let list : slice_get c.args.lists.now c.loop-i.i ≡ Some c.index-lists-i.result =
          slice_get_read c.args.lists.now _ c.loop-i.i _ refl (omega arith) c.index-lists-i.is in
          let count : slice_get c.args.placed.now c.loop-i.i ≡ Some (get_or c.args.placed.now c.loop-i.i 0) =
          slice_get-get_or c.args.placed.now c.loop-i.i 0 (omega (arith, c.requires)) in
          let read : length c.index-lists-i.result.items ≤ get_or c.loop-i.placed c.loop-i.i 0 = omega arith in
          let over : length c.index-lists-i.result.items ≤ get_or c.args.placed.now c.loop-i.i 0 =
          rw c.loop-i.invariant.placed at read in
          record {
            configs = rw w.checker-is c.loop-i.invariant.configs;
            counting = rw w.checker-is c.loop-i.invariant.counting;
            placed = c.loop-i.invariant.placed;
            ended = λ none. ended_more c.args.lists.now c.args.placed.now c.loop-i.i _ _
                (c.loop-i.invariant.ended (sym w.refused-is ∙ none)) list count over;
            tried = λ exact es seen.
                let before = c.loop-i.invariant.tried exact es seen in (
                  rw w.checker-is before.0,
                  rw w.refused-is (tried_ended _ _ _ es c.loop-i.i _ _ c.loop-i.refused before.1 list count over),
                );
          }
    ]

pub returns-in-Ok-clause-configs : goal.returns-in-Ok-clause-configs
returns-in-Ok-clause-configs g c = c.in-Ok.ensures.configs ∙ c.loop-i.invariant.configs

pub returns-in-Ok-clause-counting : goal.returns-in-Ok-clause-counting
returns-in-Ok-clause-counting g c = c.in-Ok.ensures.counting ∙ c.loop-i.invariant.counting

pub returns-in-Ok-clause-more : goal.returns-in-Ok-clause-more
returns-in-Ok-clause-more g c = λ _. record {
  list = c.loop-i.i;
  count = get_or c.loop-i.placed c.loop-i.i 0;
  event = c.index.result.now;
  next = next_read c.args.lists.now c.args.placed.now c.loop-i.placed c.loop-i.i c.index-lists-i.result c.index.result.now
      (omega arith) c.requires c.loop-i.invariant.placed c.index-lists-i.is (omega arith) c.index.ensures;
  is = ap (λ (ns : List ℕ). set ns c.loop-i.i (get_or c.loop-i.placed c.loop-i.i 0 + 1)) c.loop-i.invariant.placed;
}

pub returns-in-Ok-clause-records : goal.returns-in-Ok-clause-records
unfolding returns-in-Ok-clause-more
returns-in-Ok-clause-records g c = λ exact es seen.
    let answer =
    records_by
    (λ w x. tests_when w (record { eq = g.T.PartialEq.eq; rank = g.T.Term.rank }) g.N.PartialEq g.D.PartialEq g.C.Configs x)
    (event_of c.index.result.now) c.loop-i.checker c.record.new.self (Ok tt)
    c.args.checker.now.counting c.args.checker.now.configs c.loop-i.invariant.counting c.loop-i.invariant.configs
    c.in-Ok.ensures.answer exact es (c.loop-i.invariant.tried exact es seen).0 in (
      λ _. (returns-in-Ok-clause-more g c refl, answer.1),
      λ no. absurd (both_ways true no refl),
    )

pub returns-in-Err-OutOfMemory-clause-configs : goal.returns-in-Err-OutOfMemory-clause-configs
returns-in-Err-OutOfMemory-clause-configs g c = c.record.ensures.configs ∙ c.loop-i.invariant.configs

pub returns-in-Err-OutOfMemory-clause-counting : goal.returns-in-Err-OutOfMemory-clause-counting
returns-in-Err-OutOfMemory-clause-counting g c = c.record.ensures.counting ∙ c.loop-i.invariant.counting

pub returns-in-Err-OutOfMemory-clause-same : goal.returns-in-Err-OutOfMemory-clause-same
returns-in-Err-OutOfMemory-clause-same g c = c.loop-i.invariant.placed

pub returns-in-Err-OutOfMemory-clause-records : goal.returns-in-Err-OutOfMemory-clause-records
returns-in-Err-OutOfMemory-clause-records g c = λ exact es seen. inl (
  refl,
  get_or c.loop-i.placed c.loop-i.i 0,
  c.index.result.now,
  next_read c.args.lists.now c.loop-i.placed c.loop-i.placed c.loop-i.i c.index-lists-i.result c.index.result.now (omega arith)
      (ap length c.loop-i.invariant.placed ∙ c.requires) refl c.index-lists-i.is (omega arith) c.index.ensures,
)

pub returns-in-Some-clause-configs : goal.returns-in-Some-clause-configs
returns-in-Some-clause-configs g c = c.loop-i.invariant.configs

pub returns-in-Some-clause-counting : goal.returns-in-Some-clause-counting
returns-in-Some-clause-counting g c = c.loop-i.invariant.counting

pub returns-in-Some-clause-same : goal.returns-in-Some-clause-same
returns-in-Some-clause-same g c = c.loop-i.invariant.placed

pub returns-in-Some-clause-records : goal.returns-in-Some-clause-records
returns-in-Some-clause-records g c = λ exact es seen.
    let tried = (c.loop-i.invariant.tried exact es seen).1 in
    inr (rw c.loop-i.invariant.placed (all_tried _ _ _ es c.loop-i.i c.in-Some.i c.in-Some.rule (omega arith)
    (rw c.in-Some.is at tried)))

pub returns-in-None-clause-configs : goal.returns-in-None-clause-configs
returns-in-None-clause-configs g c = c.loop-i.invariant.configs

pub returns-in-None-clause-counting : goal.returns-in-None-clause-counting
returns-in-None-clause-counting g c = c.loop-i.invariant.counting

pub returns-in-None-clause-ended : goal.returns-in-None-clause-ended
returns-in-None-clause-ended g c = λ _. (
  c.loop-i.invariant.placed,
  all_ended c.args.lists.now c.args.placed.now c.loop-i.i (omega arith) (c.loop-i.invariant.ended c.in-None.is),
)

pub returns-in-None-clause-records : goal.returns-in-None-clause-records
returns-in-None-clause-records g c = λ exact es seen. (
  λ no. absurd (both_ways false refl no),
  λ _. (c.loop-i.invariant.tried exact es seen).0,
)
