-- A text is of one list of pairs, and no weight is at fault.
use Rattle.std.proofs.Common.{ℕ, List, Result, length}
use Rattle.gr_reader.specs.declared.fault.FileFault.{FileFault}
use Rattle.line_text.specs.declared.limits.LineLimits.{LineLimits}
use Rattle.gr_reader.specs.declared.fault.FileFault.TheVariants.{Line, Read, OutOfMemory}
use Rattle.gr_reader.specs.declared.fault.LineKind.TheVariants.{WeightRange}
use Rattle.gr_reader.specs.Reader.{MayAnswer, IsSound, IsComplete}
use Rattle.query_reader.specs.Answers.{BlamesNoWeight}
use Rattle.gr_reader.proofs.LawsLemmas.{is_decided, complete}
use Rattle.query_reader.specs.declared.pairs.Pair.{Pair}
use Rattle.query_reader.specs.Grammar.{IsPairs, pairs}

-- a fault that may be answered blames no weight
pub no_weight : (fault : FileFault) → MayAnswer pairs fault → BlamesNoWeight fault
no_weight (Line WeightRange line) may = let wrong = may.1 in absurd cc
no_weight (Line kind line) may = tt
no_weight Read may = tt
no_weight (OutOfMemory want) may = tt

-- what is sound of a file of pairs is complete
pub pairs_complete : (limits : LineLimits) (bytes : List ℕ) (result : Result (List Pair) FileFault)
    → IsSound pairs (IsPairs limits bytes) limits bytes result → IsComplete pairs (IsPairs limits bytes) limits bytes result
pairs_complete limits bytes =
    complete pairs limits bytes (IsPairs limits bytes) (λ all other is second. ((is_decided pairs limits bytes).one_file _ _ all other is second).1)
    (λ all is. (length all, all, is))
