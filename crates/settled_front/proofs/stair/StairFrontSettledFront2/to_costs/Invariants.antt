use Rattle.std.proofs.Common.{◌≡◌, map, take}
use Rattle.settled_front.proofs.stair.StairFrontSettledFront2.to_costs.Given as goal

abbrev pub invariant-loop-cost : goal.invariant-loop-cost
invariant-loop-cost g l = map (λ c. c.0) l.list.items ≡ map g.C.StoredCost.components (take l.cost-index l.cost-items)
