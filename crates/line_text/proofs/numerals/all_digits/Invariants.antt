use Rattle.std.proofs.Common.{◌≡◌}
use Rattle.line_text.proofs.NumeralLemmas.{ReadsFront}
use Rattle.line_text.proofs.numerals.all_digits.Given as goal

abbrev pub invariant-loop-byte : goal.invariant-loop-byte
invariant-loop-byte l = record {
  count : l.size ≡ l.byte-index;
  reads : ReadsFront l.text l.greatest l.byte-index l.value;
}
