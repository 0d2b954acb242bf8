use Rattle.std.proofs.Common.{arith}
use Rattle.line_text.proofs.FieldLemmas.{no_field, begins_with}
use Rattle.line_text.proofs.fields.first_byte.Goals as goal

pub returns-in-empty : goal.returns-in-empty
returns-in-empty c = no_field c.args.text.now _ c.behind_blanks.ensures (omega arith)

pub returns-in-len1-up : goal.returns-in-len1-up
returns-in-len1-up c = begins_with c.args.text.now _ c.behind_blanks.ensures (omega arith)
