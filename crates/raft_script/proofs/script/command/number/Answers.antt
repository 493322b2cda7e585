use Rattle.std.proofs.Common.{arith, sym}
use Rattle.std.proofs.lemmas.Bool.{eqb-false}
use Rattle.raft_script.proofs.lemmas.command.NumberLemmas.{none_where_not, no_digit, too_great, one_more, digits_so_far, all_read}
use Rattle.raft_script.proofs.script.command.number.Goals as goal

pub returns-in_err-digit : goal.returns-in_err-digit
returns-in_err-digit c =
    none_where_not _ _ c.from_residual.ensures
    (no_digit c.args.word.now c.loop-byte.byte-index c.loop-byte-test.true c.from.result c.from.ensures c.in_err-digit.ensures.value)

pub returns-in_err-checked_mul : goal.returns-in_err-checked_mul
returns-in_err-checked_mul c =
    none_where_not _ _ c.from_residual-in_err-checked_mul.ensures
    (too_great c.args.word.now c.loop-byte.byte-index c.loop-byte-test.true c.from.result c.from.ensures c.loop-byte.value
    c.loop-byte.invariant.value (λ below. c.in_err-checked_mul.ensures (omega arith)))

pub returns-in_err-value : goal.returns-in_err-value
returns-in_err-value c =
    none_where_not _ _ c.from_residual-in_err-value.ensures
    (too_great c.args.word.now c.loop-byte.byte-index c.loop-byte-test.true c.from.result c.from.ensures c.loop-byte.value
    c.loop-byte.invariant.value (λ below. c.in_err-value.ensures
    (omega (arith, c.in_ok-checked_mul.ensures, c.in_ok-digit.ensures.value))))

pub loop-byte-preserved : goal.loop-byte-preserved
loop-byte-preserved c = record {
  digits = digits_so_far c.args.word.now c.loop-byte.byte-index c.loop-byte-test.true c.from.result c.from.ensures
      c.loop-byte.invariant.digits c.in_ok-digit.ensures.value.0;
  value = one_more c.args.word.now c.loop-byte.byte-index c.loop-byte-test.true c.from.result c.from.ensures c.loop-byte.value
      c.loop-byte.invariant.value _ (omega (arith, c.in_ok-value.ensures, c.in_ok-checked_mul.ensures, c.in_ok-digit.ensures.value));
  fits = omega (arith, c.in_ok-value.ensures);
}

pub returns : goal.returns
returns c = all_read c.args.word.now c.loop-byte.byte-index c.loop-byte.value c.loop-byte-test.false
    (omega (arith, eqb-false _ 0 (sym c.if-is_empty.ensures))) c.loop-byte.invariant.digits c.loop-byte.invariant.value
    c.loop-byte.invariant.fits
