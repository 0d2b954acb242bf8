use Rattle.line_text.proofs.NumeralLemmas.{ReadsFew}
use Rattle.line_text.proofs.numerals.few_digits.Given as goal

abbrev pub invariant-loop-size : goal.invariant-loop-size
invariant-loop-size l = record { reads : ReadsFew l.text l.size l.value }
