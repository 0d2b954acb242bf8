use Rattle.std.proofs.Common.{◌≡◌, ℕ, List, map, take}
use Rattle.found_fronts.proofs.list.to_costs.Given as goal

-- the first ones have been listed
abbrev pub invariant-loop-cost : goal.invariant-loop-cost
invariant-loop-cost g l = let costs : List (List ℕ) = l.costs.items in costs ≡ map (λ c. c.0) (take l.cost-index l.list)
