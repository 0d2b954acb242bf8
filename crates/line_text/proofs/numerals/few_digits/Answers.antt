use Rattle.std.proofs.Common.{arith}
use Rattle.std.specs.Char.{is_ascii_digit}
use Rattle.std.proofs.lemmas.List.Sums.{prefix_len-le-length}
use Rattle.line_text.proofs.NumeralLemmas.{ends_digits, few_fit, few_more}
use Rattle.line_text.proofs.numerals.few_digits.Goals as goal

pub returns-then-digit-gt9-clause-count : goal.returns-then-digit-gt9-clause-count
returns-then-digit-gt9-clause-count c =
    let whole = ends_digits c.args.text.now _ c.loop-size.invariant.reads.digits (c.digit_of-digit.ensures.other c.if-digit-gt9.true) in
    omega (arith, c.loop-size-test.true, c.min-size-end.ensures, whole)

pub overflow_mul-value : goal.overflow_mul-value
overflow_mul-value c =
    omega (arith, few_fit _ _ c.loop-size.invariant.reads.below (omega (arith, c.loop-size-test.true, c.min-size-end.ensures)))

pub overflow_add-value : goal.overflow_add-value
overflow_add-value c =
    omega (arith, c.if-digit-gt9.false, few_fit _ _ c.loop-size.invariant.reads.below (omega (arith, c.loop-size-test.true, c.min-size-end.ensures)))

pub loop-size-preserved : goal.loop-size-preserved
loop-size-preserved c =
    let digit = c.digit_of-digit.ensures.digit (omega arith) in
    record { reads = few_more _ _ _ _ (omega (arith, c.loop-size-test.true, c.min-size-end.ensures)) digit.0 digit.1 (omega arith) c.loop-size.invariant.reads }

pub returns-clause-count : goal.returns-clause-count
returns-clause-count c =
    omega (arith, c.loop-size.invariant.reads.digits, prefix_len-le-length is_ascii_digit c.args.text.now)
