use Rattle.std.proofs.Common.{◌≡◌, ℕ, List, take}
use Rattle.settled_front.proofs.stair.StairFrontNarrowCost2NarrowFront2.widen.Given as goal

abbrev pub invariant-loop-cost : goal.invariant-loop-cost
invariant-loop-cost l =
    let wide : List (List ℕ) = l.costs.items in
    let narrow : List (List ℕ) = l.cost-items in
    wide ≡ take l.cost-index narrow
