-- Which faults no file of pairs has.
use Rattle.std.specs.Prelude.{ℕ, List}
use Rattle.line_text.specs.declared.limits.LineLimits.{LineLimits}
use Rattle.gr_reader.specs.declared.fault.LineKind.TheVariants.{WeightRange}
use Rattle.query_reader.specs.Grammar.{PairFault}

-- no line has a weight that is too great
abbrev pub WeightsNeverFail : Type 0
WeightsNeverFail = (limits : LineLimits) (bytes : List ℕ) (line : ℕ) → PairFault limits bytes WeightRange line → ⊥
