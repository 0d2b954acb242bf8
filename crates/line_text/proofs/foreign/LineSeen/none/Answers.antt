use Rattle.std.proofs.Common.{refl}
use Rattle.line_text.proofs.foreign.LineSeen.none.Goals as goal

pub returns : goal.returns
returns c = record { zero = refl; last = c.none.ensures }
