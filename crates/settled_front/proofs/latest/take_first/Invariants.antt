use Rattle.std.proofs.Common.{◌≡◌, ◌++◌, map, take}
use Rattle.settled_front.proofs.latest.take_first.Given as goal

abbrev pub invariant-loop-lane : goal.invariant-loop-lane
invariant-loop-lane g l =
    let f = g.B.Cost.StoredCost.components in
    map f l.costs.items ≡ map f l.fn.costs.items ++ take l.lane (g.B.CostBlock.costs l.block)
