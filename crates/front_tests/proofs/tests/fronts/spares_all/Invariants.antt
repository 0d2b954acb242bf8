use Rattle.std.proofs.Common.{take}
use Rattle.std.specs.Prelude.{All}
use Rattle.cost_vector.specs.Costs.{Dominates}
use Rattle.front_tests.proofs.tests.fronts.spares_all.Given as goal

-- it dominates none so far
abbrev pub invariant-loop-other : goal.invariant-loop-other
invariant-loop-other g l = All (λ c. ¬ Dominates l.cost.0 c.0) (take l.other-index l.settled)
