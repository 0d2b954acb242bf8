use Rattle.std.proofs.Common.{refl, rules}
use Rattle.std.proofs.lemmas.Bool.{iff_false}
use Rattle.std.proofs.lemmas.List.{take_rest}
use Rattle.line_text.proofs.FieldLemmas.{no_field}
use Rattle.line_text.proofs.NumeralLemmas.{reads_number, reads_no_number}
use Rattle.line_text.proofs.numerals.any_number.Goals as goal

pub returns-then-is_empty : goal.returns-then-is_empty
returns-then-is_empty c = no_field c.args.text.now _ c.behind_blanks-text.ensures (search rules)

pub returns-then-begins_blank : goal.returns-then-begins_blank
returns-then-begins_blank c =
    let ends = rw take_rest at (c.begins_blank.ensures.0 c.if-begins_blank.true) in
    rw (take_rest, c.number_or_above.ensures)
    (reads_number c.args.text.now _ c.behind_blanks-text.ensures (search rules) c.args.greatest _ c.digits-size.ensures.count _ _ refl ends
    c.digits-size.ensures.number)

pub returns : goal.returns
returns c =
    let goes_on = rw take_rest at (iff_false c.begins_blank.ensures c.if-begins_blank.false) in
    rw take_rest
    (reads_no_number c.args.text.now _ c.behind_blanks-text.ensures (search rules) c.args.greatest _ c.digits-size.ensures.count goes_on _ _
    c.filled_len.ensures.value refl)
