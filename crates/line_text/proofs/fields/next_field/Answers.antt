use Rattle.std.proofs.Common.{rules}
use Rattle.line_text.proofs.FieldLemmas.{no_field, first_field}
use Rattle.line_text.proofs.fields.next_field.Goals as goal

pub returns-then-is_empty : goal.returns-then-is_empty
returns-then-is_empty c = no_field c.args.text.now _ c.behind_blanks-text.ensures (search rules)

pub returns : goal.returns
returns c =
    first_field c.args.text.now c.behind_blanks-text.result.now c.behind_blanks-text.ensures c.filled_len.result _ _
    (search rules) c.filled_len.ensures.value c.split_at.ensures.front c.split_at.ensures.back
