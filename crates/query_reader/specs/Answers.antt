-- What is answered for a file of pairs.
use Rattle.std.specs.Prelude.{⊤, List, Result, Ok, Err}
use Rattle.std.specs.Global.{Vec}
use Rattle.gr_reader.specs.declared.fault.FileFault.{FileFault}
use Rattle.gr_reader.specs.declared.fault.FileFault.TheVariants.{Line}
use Rattle.gr_reader.specs.declared.fault.LineKind.TheVariants.{WeightRange}
use Rattle.query_reader.specs.declared.pairs.Pair.{Pair}

-- the fault isn't that a weight is too great
abbrev pub BlamesNoWeight : FileFault → Type 0
BlamesNoWeight (Line WeightRange line) = ⊥
BlamesNoWeight fault = ⊤

-- the answer with its pairs as a list
abbrev pub listed : Result (Vec Pair) FileFault → Result (List Pair) FileFault
listed (Ok found) = Ok found.items
listed (Err fault) = Err fault
