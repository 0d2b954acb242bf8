use Rattle.std.proofs.Common.{length, ap, arith}
use Rattle.list_laws.proofs.OnceLaws.{alike_through}
use Rattle.bulk_core.proofs.SpentLemmas.{covered_lowered}
use Rattle.bulk_core.proofs.settled.covers_less.Goals as goal

pub returns : goal.returns
returns g c = let same = c.to_compact-numbers.ensures.same in
    rw (← same) (alike_through (rw c.of.ensures at c.covers.ensures) (covered_lowered _ c.to_compact-numbers.result.0 c.args.k
    (omega (arith, c.requires.place, ap length same, c.to_compact-numbers.ensures.long)) (omega arith)))
