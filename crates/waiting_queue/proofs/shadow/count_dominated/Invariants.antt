use Rattle.std.proofs.Common.{take}
use Rattle.std.specs.Prelude.{All}
use Rattle.cost_vector.specs.Costs.{Dominates}
use Rattle.waiting_queue.proofs.shadow.count_dominated.Given as goal

abbrev pub invariant-loop-count : goal.invariant-loop-count
invariant-loop-count g l =
    All (λ i. Dominates (g.C.StoredCost.components l.by) (g.C.StoredCost.components i.cost)) (take l.count l.items)
