use Rattle.std.proofs.Common.{refl, arith}
use Rattle.line_text.proofs.FieldLemmas.{behind_more, field_at}
use Rattle.line_text.proofs.fields.field.Goals as goal

pub loop-preserved : goal.loop-preserved
loop-preserved c = behind_more _ _ _ _ _ c.loop.invariant c.in_ok-rest.ensures

pub returns : goal.returns
returns c =
    field_at _ _ _ _ _ c.loop.invariant c.in_ok-found.ensures _ _ _ (omega arith) refl refl
