use Rattle.std.proofs.Common.{sym, ◌∙◌, arith}
use Rattle.std.specs.Char.{is_ascii_digit}
use Rattle.std.proofs.lemmas.List.Sums.{prefix_len-le-length}
use Rattle.line_text.proofs.NumeralLemmas.{ends_digits, reads_more, stays_above}
use Rattle.line_text.proofs.numerals.all_digits.Goals as goal
use Rattle.line_text.proofs.numerals.all_digits.Goals.{in-Some, in-None}

pub loop-byte-preserved : goal.loop-byte-preserved
loop-byte-preserved c = record {
  count = omega arith;
  reads = elim c.match-value.branch [
    | in-Some w ↦
        reads_more _ _ _ c.loop-byte-test.true (sym c.is_ascii_digit.ensures.value ∙ c.if-not-is_ascii_digit.false) _ _
        (rw w.in-Some.is at c.loop-byte.invariant.reads) (w.value-is ∙ w.with_digit-value.ensures)
    | in-None w ↦
        rw w.value-is (stays_above _ _ _ c.loop-byte-test.true (sym c.is_ascii_digit.ensures.value ∙ c.if-not-is_ascii_digit.false)
        (rw w.in-None.is at c.loop-byte.invariant.reads))
  ];
}

pub returns-then-not-is_ascii_digit-clause-count : goal.returns-then-not-is_ascii_digit-clause-count
returns-then-not-is_ascii_digit-clause-count c =
    c.loop-byte.invariant.count
    ∙ ends_digits c.args.text.now _ c.loop-byte.invariant.reads.digits (sym c.is_ascii_digit.ensures.value ∙ c.if-not-is_ascii_digit.true)

pub returns-clause-count : goal.returns-clause-count
returns-clause-count c =
    omega (arith, c.loop-byte.invariant.reads.digits, prefix_len-le-length is_ascii_digit c.args.text.now)
