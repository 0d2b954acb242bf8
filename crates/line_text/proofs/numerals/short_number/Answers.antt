use Rattle.std.proofs.Common.{◌≡◌, ◌∷◌, true, arith, refl, rules}
use Rattle.std.proofs.lemmas.List.{take_rest}
use Rattle.line_text.specs.Fields.{is_blank}
use Rattle.line_text.proofs.NumeralLemmas.{reads_short}
use Rattle.line_text.proofs.numerals.short_number.Goals as goal

pub returns-then-begins_blank : goal.returns-then-begins_blank
returns-then-begins_blank c =
    let parts : c.args.text.now ≡ c.in_ok-first.first.now ∷ c.in_ok-first.filled.now = search rules in
    let blank : is_blank c.in_ok-first.first.now ≡ true = search rules in
    let ends = rw take_rest at (c.begins_blank.ensures.0 c.if-begins_blank.true) in
    rw (parts, take_rest, c.number_or_above.ensures, c.at_most.ensures)
    (reads_short c.in_ok-first.first.now c.in_ok-first.filled.now blank _ (omega (arith, c.if-size-gt0.true))
    (omega (arith, c.few_digits-size.ensures.count, c.if-size-lt-FEW.true)) c.args.greatest _ _ refl ends c.few_digits-size.ensures.number)
