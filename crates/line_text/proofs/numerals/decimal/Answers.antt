use Rattle.std.proofs.Common.{◌∙◌, arith}
use Rattle.line_text.proofs.NumeralLemmas.{all_digits, no_digit, not_digits}
use Rattle.line_text.proofs.numerals.decimal.Goals as goal
use Rattle.line_text.proofs.numerals.decimal.Goals.{then-size-eq0-via-then-size-eq0, then-size-eq0-via-else-size-eq0+then-size-text}

pub returns-then-size-eq0 : goal.returns-then-size-eq0
returns-then-size-eq0 c =
    elim c.then-size-eq0.branch [
      | then-size-eq0-via-then-size-eq0 w ↦ no_digit c.args.text.now c.args.greatest _ c.digits-size.ensures.count w.if-size-eq0.true
      | then-size-eq0-via-else-size-eq0+then-size-text w ↦ not_digits c.args.text.now c.args.greatest _ c.digits-size.ensures.count w.if-size-text.true
    ]

pub returns : goal.returns
returns c =
    c.number_or_above.ensures ∙ all_digits c.args.text.now c.args.greatest _ c.digits-size.ensures.count _ (omega arith) c.if-size-text.false c.digits-size.ensures.number
