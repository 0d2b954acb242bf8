use Rattle.line_text.proofs.FieldLemmas.{BehindFields}
use Rattle.line_text.proofs.fields.field.Given as goal

abbrev pub invariant-loop : goal.invariant-loop
invariant-loop l = BehindFields l.text l.rest l.counter
